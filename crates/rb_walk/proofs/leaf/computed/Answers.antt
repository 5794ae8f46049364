use Rattle.rb_walk.proofs.Immediates.{computed_made, computed_small}
use Rattle.rb_walk.proofs.leaf.computed.Goals as goal

pub returns-then-is_over : goal.returns-then-is_over
returns-then-is_over c = computed_made c.args.code.now c.args.room.now c.made.result c.args.is_over c.if-is_over.true c.made.ensures

pub returns-else-is_over : goal.returns-else-is_over
returns-else-is_over c = computed_small c.args.code.now c.args.room.now c.small.result c.args.is_over c.if-is_over.false c.small.ensures
