use Rattle.rb_walk.proofs.Leaves.{held_alone_if}
use Rattle.rb_walk.proofs.leaf.held_alone.Goals as goal

pub returns-in-Local : goal.returns-in-Local
returns-in-Local c = held_alone_if c.args.code.now c.in-Local.slot c.in-Local.field-1 c.in-Local.field-2 c.args.room.now c.alone.result c.in-Local.is c.alone.ensures
