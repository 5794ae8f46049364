use Rattle.rb_machine.proofs.Once.{has_one_run}
use Rattle.rb_machine.proofs.laws.one_run.Goals as goal

pub returns : goal.returns
returns c = has_one_run
