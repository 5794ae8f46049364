use Rattle.rb_machine.proofs.Collections.{literals_make_things}
use Rattle.rb_machine.proofs.laws.literals.Goals as goal

pub returns : goal.returns
returns c = literals_make_things
