use Rattle.local_heap.proofs.Standing.{within_at}
use Rattle.local_heap.proofs.heap.LocalHeap.things_are_within_limits.Goals as goal

pub returns : goal.returns
returns g c = λ id. within_at c.self.inside.cells.thread (g.S.ShapeStore.shapes c.self.inside.shapes) c.self.inside.cells.items.items c.args.self.now c.self.view_is c.self.invariant id
