use Rattle.shape_core.proofs.Places.{retired}
use Rattle.shape_core.proofs.laws.retired_for_good.Goals as goal

pub returns : goal.returns
returns c = retired
