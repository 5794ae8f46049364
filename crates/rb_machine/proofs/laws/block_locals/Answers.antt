use Rattle.rb_machine.proofs.Locals.{own_locals_are_new, parameters_are_given, own_locals_go}
use Rattle.rb_machine.proofs.Scoping.{iterations_leave_the_rest}
use Rattle.rb_machine.proofs.laws.block_locals.Goals as goal

pub returns-clause-new : goal.returns-clause-new
returns-clause-new c = own_locals_are_new

pub returns-clause-given : goal.returns-clause-given
returns-clause-given c = parameters_are_given

pub returns-clause-gone : goal.returns-clause-gone
returns-clause-gone c = own_locals_go

pub returns-clause-behind : goal.returns-clause-behind
returns-clause-behind c = iterations_leave_the_rest
