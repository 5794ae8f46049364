use Rattle.rb_shared.proofs.Locks.{locks_exclude}
use Rattle.rb_shared.proofs.laws.mutexes.Goals as goal

pub returns : goal.returns
returns c = locks_exclude
