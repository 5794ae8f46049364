use Rattle.rb_machine.proofs.CollectionFailures.{inspected_fails}
use Rattle.rb_machine.proofs.CollectionPrintFailures.{puts_fails, print_fails, p_fails}
use Rattle.rb_machine.proofs.laws.texts_that_do_not_come.Goals as goal

pub returns-clause-inspected : goal.returns-clause-inspected
returns-clause-inspected c = inspected_fails

pub returns-clause-puts : goal.returns-clause-puts
returns-clause-puts c = puts_fails

pub returns-clause-print : goal.returns-clause-print
returns-clause-print c = print_fails

pub returns-clause-p : goal.returns-clause-p
returns-clause-p c = p_fails
