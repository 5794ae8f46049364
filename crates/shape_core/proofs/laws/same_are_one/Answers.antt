use Rattle.shape_core.proofs.Sames as sames
use Rattle.shape_core.proofs.laws.same_are_one.Goals as goal

pub returns : goal.returns
returns c = sames.same_are_one
