use Rattle.std.proofs.Common.{subst}
use Rattle.rb_walk.specs.Answers.{IsHeld}
use Rattle.rb_walk.proofs.target.local_target.Goals as goal

pub returns-clause-held : goal.returns-clause-held
returns-clause-held c = subst (λ v. IsHeld c.args.code.now c.args.room.now v) c.in_ok-target.ensures.some.me c.in_ok-local_at.ensures
