use Rattle.rb_shared.proofs.Locks.{owners_alone_unlock}
use Rattle.rb_shared.proofs.laws.owners.Goals as goal

pub returns : goal.returns
returns c = owners_alone_unlock
