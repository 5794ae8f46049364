use Rattle.rb_walk.proofs.Leaves.{held_nil}
use Rattle.rb_walk.proofs.ready.is_nil_asked.Goals as goal

pub returns-clause-right : goal.returns-clause-right
returns-clause-right c = λ e room. held_nil c.args.right.now c.in-Nil.field-0 room c.in-Nil.is
