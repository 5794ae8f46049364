use Rattle.rb_machine.proofs.Finishing.{always_finishes}
use Rattle.rb_machine.proofs.laws.always_finishes.Goals as goal

pub returns : goal.returns
returns c = always_finishes
