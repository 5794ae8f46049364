use Rattle.local_heap.proofs.Agreeing.{private_agrees}
use Rattle.local_heap.proofs.heap.LocalHeap.shapes_agree.Goals as goal

pub returns : goal.returns
returns g c = λ id. private_agrees c.self.inside.cells.thread (g.S.ShapeStore.shapes c.self.inside.shapes) _ c.self.inside.cells.items.items c.args.self.now id c.self.invariant.0 c.self.view_is
