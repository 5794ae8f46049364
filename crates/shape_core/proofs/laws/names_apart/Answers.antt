use Rattle.shape_core.proofs.Places.{apart}
use Rattle.shape_core.proofs.laws.names_apart.Goals as goal

pub returns : goal.returns
returns c = apart
