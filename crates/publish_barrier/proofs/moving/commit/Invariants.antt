use Rattle.std.proofs.Common.{◌-◌, length}
use Rattle.publish_barrier.proofs.Committing.{Leaving}
use Rattle.publish_barrier.proofs.moving.commit.Given as goal

abbrev pub invariant-moved : goal.invariant-moved
invariant-moved g l = Leaving l.fn.heap l.heap l.fn.known.refs l.known.refs l.known.room l.moved l.number

abbrev pub decreases-moved : goal.decreases-moved
decreases-moved g l = length l.moved - l.number
