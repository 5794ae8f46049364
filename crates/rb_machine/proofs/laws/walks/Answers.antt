use Rattle.rb_machine.proofs.Collections.{walks_ask_each_time, walks_keep}
use Rattle.rb_machine.proofs.laws.walks.Goals as goal

pub returns-clause-asked : goal.returns-clause-asked
returns-clause-asked c = walks_ask_each_time

pub returns-clause-kept : goal.returns-clause-kept
returns-clause-kept c = walks_keep
