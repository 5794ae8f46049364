use Rattle.run_laws.proofs.Order.{shared_is_closed, told_is_shared, asked_is_shared}
use Rattle.run_laws.proofs.laws.shared_is_closed.Goals as goal

pub returns-clause-things : goal.returns-clause-things
returns-clause-things c = shared_is_closed

pub returns-clause-told : goal.returns-clause-told
returns-clause-told c = told_is_shared

pub returns-clause-asked : goal.returns-clause-asked
returns-clause-asked c = asked_is_shared
