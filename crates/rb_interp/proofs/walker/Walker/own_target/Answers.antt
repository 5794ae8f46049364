use Rattle.std.proofs.Common.{refl}
use Rattle.rb_interp.proofs.walker.Walker.own_target.Goals as goal

pub returns-in-None-clause-none : goal.returns-in-None-clause-none
returns-in-None-clause-none g c = λ q S st. rw c.in-None.is refl

pub returns-in-Some-clause-some : goal.returns-in-Some-clause-some
returns-in-Some-clause-some g c = rw c.in-Some.is c.target_of.ensures.some

pub returns-in-Some-clause-none : goal.returns-in-Some-clause-none
returns-in-Some-clause-none g c = λ q. rw c.in-Some.is (c.target_of.ensures.none q)
