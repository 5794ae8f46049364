use Rattle.rb_machine.proofs.CollectionLines.{inspected_as_told, texts_as_told}
use Rattle.rb_machine.proofs.CollectionPrints.{puts_as_told, print_as_told, p_as_told, runs_as_told, threads_as_told}
use Rattle.rb_machine.proofs.laws.told_texts.Goals as goal

pub returns-clause-inspected : goal.returns-clause-inspected
returns-clause-inspected c = inspected_as_told

pub returns-clause-asked : goal.returns-clause-asked
returns-clause-asked c = texts_as_told

pub returns-clause-puts : goal.returns-clause-puts
returns-clause-puts c = puts_as_told

pub returns-clause-print : goal.returns-clause-print
returns-clause-print c = print_as_told

pub returns-clause-p : goal.returns-clause-p
returns-clause-p c = p_as_told

pub returns-clause-run : goal.returns-clause-run
returns-clause-run c = runs_as_told

pub returns-clause-thread : goal.returns-clause-thread
returns-clause-thread c = threads_as_told
