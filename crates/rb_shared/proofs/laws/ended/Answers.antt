use Rattle.rb_shared.proofs.Freed.{ended_own_nothing}
use Rattle.rb_shared.proofs.laws.ended.Goals as goal

pub returns : goal.returns
returns c = ended_own_nothing
