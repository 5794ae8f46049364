use Rattle.rb_machine.proofs.Exits.{next_goes_on}
use Rattle.rb_machine.proofs.laws.next_goes_on.Goals as goal

pub returns : goal.returns
returns c = next_goes_on
