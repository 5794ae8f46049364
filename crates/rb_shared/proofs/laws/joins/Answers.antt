use Rattle.rb_shared.proofs.Joins.{joins_come_behind_ends}
use Rattle.rb_shared.proofs.laws.joins.Goals as goal

pub returns : goal.returns
returns c = joins_come_behind_ends
