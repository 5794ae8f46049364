use Rattle.rb_machine.proofs.Exits.{return_ends_methods}
use Rattle.rb_machine.proofs.laws.return_ends.Goals as goal

pub returns : goal.returns
returns c = return_ends_methods
