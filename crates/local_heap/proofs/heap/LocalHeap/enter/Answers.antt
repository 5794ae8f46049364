use Rattle.std.proofs.Common.{Some, refl, ap, sym, subst, ◌∙◌}
use Rattle.local_heap.proofs.Acting.{AreWhole, private_now, same_cells}
use Rattle.local_heap.proofs.Standing.{enters_private, enters_whole}
use Rattle.local_heap.proofs.heap.LocalHeap.enter.Goals as goal

pub invariant_of-self : goal.invariant_of-self
invariant_of-self g c =
    same_cells c.self.inside.cells.thread (g.S.ShapeStore.shapes c.self.inside.shapes) c.self.inside.cells.items.items (g.S.ShapeStore.shapes c.self.inside.shapes) c.push.new.self.items
    c.self.invariant refl c.in_err-push.ensures.items

pub invariant_of-self-2 : goal.invariant_of-self-2
invariant_of-self-2 g c =
    subst (AreWhole c.self.inside.cells.thread (g.S.ShapeStore.shapes c.self.inside.shapes)) (sym c.in_ok-push.ensures.items)
    (enters_whole c.self.inside.cells.thread (g.S.ShapeStore.shapes c.self.inside.shapes) c.self.inside.cells.items.items c.args.self.now c.self.view_is c.self.invariant c.args.cell c.requires)

pub returns-clause-private : goal.returns-clause-private
returns-clause-private g c =
    enters_private c.self.inside.cells.thread (g.S.ShapeStore.shapes c.self.inside.shapes) c.self.inside.cells.items.items c.args.self.now c.self.view_is c.self.invariant c.args.cell c.requires
    ∙ ap Some (ap (private_now c.self.inside.cells.thread (g.S.ShapeStore.shapes c.self.inside.shapes)) (sym c.in_ok-push.ensures.items))
