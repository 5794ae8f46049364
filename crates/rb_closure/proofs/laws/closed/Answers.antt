use Rattle.rb_closure.proofs.Closed.{threads_are_closed, asks_are_known}
use Rattle.rb_closure.proofs.Entries.{entries_name_told}
use Rattle.rb_closure.proofs.Ended.{whole_log_names_told}
use Rattle.rb_closure.proofs.laws.closed.Goals as goal

pub returns-clause-values : goal.returns-clause-values
returns-clause-values c = threads_are_closed

pub returns-clause-asked : goal.returns-clause-asked
returns-clause-asked c = asks_are_known

pub returns-clause-entries : goal.returns-clause-entries
returns-clause-entries c = entries_name_told

pub returns-clause-log : goal.returns-clause-log
returns-clause-log c = whole_log_names_told
