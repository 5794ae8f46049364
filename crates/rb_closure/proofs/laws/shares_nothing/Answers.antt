use Rattle.rb_closure.proofs.Keeping.{shares_nothing, does_alone}
use Rattle.rb_closure.proofs.laws.shares_nothing.Goals as goal

pub returns-clause-own : goal.returns-clause-own
returns-clause-own c = shares_nothing

pub returns-clause-alone : goal.returns-clause-alone
returns-clause-alone c = does_alone
