use Rattle.rb_machine.proofs.Turns.{or_goes_on_where_false, and_goes_on_where_true}
use Rattle.rb_machine.proofs.laws.right_sides.Goals as goal

pub returns-clause-or : goal.returns-clause-or
returns-clause-or c = or_goes_on_where_false

pub returns-clause-and : goal.returns-clause-and
returns-clause-and c = and_goes_on_where_true
