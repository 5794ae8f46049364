use Rattle.rb_accepted.proofs.Coded.{accepted_has_code}
use Rattle.rb_accepted.proofs.laws.accepted_has_code.Goals as goal

pub returns : goal.returns
returns c = accepted_has_code
