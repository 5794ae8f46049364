use Rattle.rb_accepted.proofs.Accepted.{accepted_has_all}
use Rattle.rb_accepted.proofs.laws.accepted_has_all.Goals as goal

pub returns : goal.returns
returns c = accepted_has_all
