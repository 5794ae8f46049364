use Rattle.shape_core.proofs.Names.{stands_where_added}
use Rattle.shape_core.proofs.laws.found_where_added.Goals as goal

pub returns : goal.returns
returns c = stands_where_added
