use Rattle.std.proofs.Common.{subst, ap}
use Rattle.rb_model.specs.Values.{plain}
use Rattle.rb_walk.specs.Answers.{IsHeld}
use Rattle.rb_walk.proofs.target.local_collection.Goals as goal

pub returns-in-List-clause-held : goal.returns-in-List-clause-held
returns-in-List-clause-held c = subst (λ v. IsHeld c.args.code.now c.args.room.now v) (ap plain c.in-Ref.is) c.in_ok-thing.ensures
