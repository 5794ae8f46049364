use Rattle.rb_closure.proofs.Running.{runs_alone}
use Rattle.rb_closure.proofs.laws.alone_exists.Goals as goal

pub returns : goal.returns
returns c = runs_alone
