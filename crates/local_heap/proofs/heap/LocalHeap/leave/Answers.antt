use Rattle.local_heap.proofs.Leaving.{left_private, left_whole}
use Rattle.local_heap.proofs.heap.LocalHeap.leave.Goals as goal

pub invariant_of-self : goal.invariant_of-self
invariant_of-self g c =
    left_whole c.self.inside.cells.thread (g.S.ShapeStore.shapes c.self.inside.shapes) c.self.inside.cells.items.items c.args.self.now c.self.view_is c.self.invariant
    c.args.id c.class_of-class.result c.class_of-class.ensures

pub returns : goal.returns
returns g c =
    left_private c.self.inside.cells.thread (g.S.ShapeStore.shapes c.self.inside.shapes) c.self.inside.cells.items.items c.args.self.now c.self.view_is c.self.invariant
    c.args.id c.class_of-class.result c.class_of-class.ensures
