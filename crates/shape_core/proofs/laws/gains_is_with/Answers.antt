use Rattle.shape_core.proofs.Sames as sames
use Rattle.shape_core.proofs.laws.gains_is_with.Goals as goal

pub returns : goal.returns
returns c = sames.gains_is_with
