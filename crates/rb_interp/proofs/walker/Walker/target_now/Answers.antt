use Rattle.rb_walk.proofs.Targets.{registers_none}
use Rattle.rb_interp.proofs.walker.Walker.target_now.Goals as goal

pub returns-in_default-clause-none : goal.returns-in_default-clause-none
returns-in_default-clause-none g c = λ m q. registers_none c.args.self.now.context.script.now c.args.came c.args.self.now.value c.args.name m c.in_default.not-Other

pub returns-in_err-target-clause-none : goal.returns-in_err-target-clause-none
returns-in_err-target-clause-none g c = λ m q. rw c.in-Other.is (c.target_of.ensures.none c.in_err-target.was)

pub returns-clause-value : goal.returns-clause-value
returns-clause-value g c = rw c.in-Other.is c.in_ok-target.ensures.some.me
