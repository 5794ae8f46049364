use Rattle.std.proofs.Common.{◌∙◌, ◌≡◌, List, ◌++◌, ◌∷◌, [], ap, refl}
use Rattle.local_heap.specs.declared.cells.Cell.{Cell}
use Rattle.local_heap.specs.declared.cells.Cell.TheVariants as cell
use Rattle.local_heap.proofs.Objects.{always_err}
use Rattle.local_heap.proofs.Acting.{made_cells_by, made_private_by, same_cells, same_private}
use Rattle.local_heap.proofs.heap.LocalHeap.make_object.Given.{Over}
use Rattle.local_heap.proofs.heap.LocalHeap.make_object.Goals as goal

-- the cells with the new one
pushed : (g : Over) (c : goal.After-push_reserved g)
    → c.push_reserved.new.self.items ≡ c.self.inside.cells.items.items ++ cell.Object (record { shape = c.in_ok-shape.shape; words = c.new.result; whole = c.new-2.result }) ∷ []
pushed g c =
    c.push_reserved.ensures.items
    ∙ ap (λ (cs : List Cell). cs ++ cell.Object (record { shape = c.in_ok-shape.shape; words = c.new.result; whole = c.new-2.result }) ∷ []) c.reserve.ensures.items

pub invariant_of-self : goal.invariant_of-self
invariant_of-self g c =
    same_cells c.self.inside.cells.thread (g.S.ShapeStore.shapes c.self.inside.shapes) c.self.inside.cells.items.items (g.S.ShapeStore.shapes c.self.inside.shapes) c.reserve.new.self.items
    c.self.invariant refl c.reserve.ensures.items

pub invariant_of-self-2 : goal.invariant_of-self-2
invariant_of-self-2 g c =
    made_cells_by c.self.inside.cells.thread (g.S.ShapeStore.shapes c.self.inside.shapes) c.self.inside.cells.items.items c.args.self.now c.self.view_is c.self.invariant.0 c.self.invariant.1
    c.args.class (g.S.ShapeStore.shapes c.root.new.self) _ c.in_ok-shape.ensures.answer c.in_ok-shape.ensures.made c.new.ensures.items c.push_reserved.new.self.items (pushed g c)

pub returns-clause-private : goal.returns-clause-private
returns-clause-private g c =
    made_private_by c.self.inside.cells.thread (g.S.ShapeStore.shapes c.self.inside.shapes) c.self.inside.cells.items.items c.args.self.now c.self.view_is c.self.invariant.0 c.self.invariant.1
    c.args.class (g.S.ShapeStore.shapes c.root.new.self) _ c.in_ok-shape.ensures.answer c.in_ok-shape.ensures.made c.new.ensures.items c.push_reserved.new.self.items (pushed g c)

pub invariant_of-self-in_err-shape : goal.invariant_of-self-in_err-shape
invariant_of-self-in_err-shape g c =
    same_cells c.self.inside.cells.thread (g.S.ShapeStore.shapes c.self.inside.shapes) c.self.inside.cells.items.items (g.S.ShapeStore.shapes c.root.new.self) c.reserve.new.self.items
    c.self.invariant c.in_err-shape.ensures.err c.reserve.ensures.items

pub returns-in_err-shape-clause-err : goal.returns-in_err-shape-clause-err
returns-in_err-shape-clause-err g c =
    always_err c.from_residual-in_err-shape.result
    (same_private c.self.inside.cells.thread (g.S.ShapeStore.shapes c.self.inside.shapes) c.self.inside.cells.items.items c.args.self.now (g.S.ShapeStore.shapes c.root.new.self) c.reserve.new.self.items
    c.self.view_is c.in_err-shape.ensures.err c.reserve.ensures.items)
