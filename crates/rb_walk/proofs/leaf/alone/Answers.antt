use Rattle.std.proofs.Common.{arith}
use Rattle.rb_walk.proofs.Lists.{there, alone_at}
use Rattle.rb_walk.proofs.leaf.alone.Goals as goal

pub returns : goal.returns
returns c =
    let v = there c.args.room.now c.args.slot (omega (arith, c.if-slot-room.false)) in
    (v.0, v.1, alone_at c.args.room.now c.args.slot v.0 v.1)
