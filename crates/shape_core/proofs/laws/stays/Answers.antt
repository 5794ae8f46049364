use Rattle.shape_core.proofs.Names as names
use Rattle.shape_core.proofs.laws.stays.Goals as goal

pub returns : goal.returns
returns c = names.stays
