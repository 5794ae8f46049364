use Rattle.rb_walk.proofs.Leaves.{held_if}
use Rattle.rb_walk.proofs.leaf.held_at.Goals as goal

pub returns-in-Local-clause-held : goal.returns-in-Local-clause-held
returns-in-Local-clause-held c = held_if c.args.code.now c.in-Local.slot c.in-Local.field-1 c.in-Local.field-2 c.args.room.now c.value_at.result c.in-Local.is c.value_at.ensures.held
