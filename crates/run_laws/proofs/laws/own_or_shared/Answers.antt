use Rattle.run_laws.proofs.Order.{threads_name_shared}
use Rattle.run_laws.proofs.laws.own_or_shared.Goals as goal

pub returns : goal.returns
returns c = threads_name_shared
