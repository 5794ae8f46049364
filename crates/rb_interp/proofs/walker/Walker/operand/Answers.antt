use Rattle.rb_interp.proofs.walker.Walker.operand.Goals as goal

pub returns-then-is_far : goal.returns-then-is_far
returns-then-is_far g c = rw c.if-is_far.true c.far_operand.ensures

pub returns-else-is_far : goal.returns-else-is_far
returns-else-is_far g c = rw c.if-is_far.false c.near_operand.ensures
