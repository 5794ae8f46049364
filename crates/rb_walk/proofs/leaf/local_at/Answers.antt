use Rattle.rb_walk.proofs.Leaves.{held_if}
use Rattle.rb_walk.proofs.leaf.local_at.Goals as goal

pub returns-in-Local : goal.returns-in-Local
returns-in-Local c = held_if c.args.code.now c.in-Local.slot c.in-Local.field-1 c.in-Local.field-2 c.args.room.now c.slot_at.result c.in-Local.is c.slot_at.ensures
