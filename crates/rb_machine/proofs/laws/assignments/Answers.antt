use Rattle.rb_machine.proofs.Locals.{assigns_one, assigns_own, assigns_outside}
use Rattle.rb_machine.proofs.laws.assignments.Goals as goal

pub returns-clause-one : goal.returns-clause-one
returns-clause-one c = assigns_one

pub returns-clause-own : goal.returns-clause-own
returns-clause-own c = assigns_own

pub returns-clause-outside : goal.returns-clause-outside
returns-clause-outside c = assigns_outside
