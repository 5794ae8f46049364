use Rattle.run_laws.proofs.Apart.{shared_is_apart}
use Rattle.run_laws.proofs.laws.apart.Goals as goal

pub returns : goal.returns
returns c = shared_is_apart
