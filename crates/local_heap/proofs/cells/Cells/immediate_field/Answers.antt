use Rattle.std.proofs.Common.{◌≡◌, ◌∙◌, ℕ, List, Some, length, get_or, ap, sym, arith, rules, to_z, of_z, w64, FitsSigned}
use Rattle.shape_core.specs.declared.edge.Kind.TheVariants.{IntLoc, AnyLoc}
use Rattle.shape_core.specs.Path.{find_on}
use Rattle.shape_core.specs.Shape.{path_at}
use Rattle.shape_core.proofs.Places.{below}
use Rattle.rb_model.specs.Immediates.{told}
use Rattle.local_heap.specs.Slots.{slot_at}
use Rattle.local_heap.proofs.Objects.{read_nil}
use Rattle.local_heap.proofs.Reading.{integer_told, place_told}
use Rattle.local_heap.proofs.cells.Cells.immediate_field.Goals as goal

pub returns-in-None : goal.returns-in-None
returns-in-None g c =
    let path = path_at (g.S.ShapeStore.shapes c.args.shapes.now) c.args.object.now.shape in
    ap told (sym (read_nil _ path (slot_at c.args.object.now) c.args.name c.requires.object.valid (sym c.find.ensures ∙ c.in-None.is)))

pub offset_bounds-deref-place : goal.offset_bounds-deref-place
offset_bounds-deref-place g c =
    let path = path_at (g.S.ShapeStore.shapes c.args.shapes.now) c.args.object.now.shape in
    let found : find_on path c.args.name ≡ Some (c.in-Some-default-IntLoc.place, IntLoc) = cc in
    let within = below path c.args.name c.in-Some-default-IntLoc.place IntLoc found in
    omega (arith, within, c.requires.object.long, ap length c.deref.ensures, c.deref.type_inv.1)

pub bounds-deref-place : goal.bounds-deref-place
bounds-deref-place g c =
    let path = path_at (g.S.ShapeStore.shapes c.args.shapes.now) c.args.object.now.shape in
    let found : find_on path c.args.name ≡ Some (c.in-Some-default-IntLoc.place, IntLoc) = cc in
    let within = below path c.args.name c.in-Some-default-IntLoc.place IntLoc found in
    omega (arith, within, c.requires.object.long, ap length c.deref.ensures)

pub told_at-requires-clause-within : goal.told_at-requires-clause-within
told_at-requires-clause-within g c =
    let path = path_at (g.S.ShapeStore.shapes c.args.shapes.now) c.args.object.now.shape in
    let found : find_on path c.args.name ≡ Some (c.in-Some-default-AnyLoc.place, AnyLoc) = cc in
    omega (arith, below path c.args.name c.in-Some-default-AnyLoc.place AnyLoc found, c.requires.object.long)

pub returns-in-Some-default-IntLoc : goal.returns-in-Some-default-IntLoc
returns-in-Some-default-IntLoc g c =
    let path = path_at (g.S.ShapeStore.shapes c.args.shapes.now) c.args.object.now.shape in
    let found : find_on path c.args.name ≡ Some (c.in-Some-default-IntLoc.place, IntLoc) = cc in
    let z : to_z w64 (of_z w64 c.from_int_word.result) ≡ c.from_int_word.result = search rules in
    let fits : FitsSigned w64 c.from_int_word.result = search rules in
    rw z
    (integer_told _ path (slot_at c.args.object.now) c.args.name c.in-Some-default-IntLoc.place c.requires.object.valid found
    c.from_int_word.result fits
    (c.from_int_word.ensures ∙ ap (λ (ws : List ℕ). get_or ws c.in-Some-default-IntLoc.place.0 0) c.deref.ensures))

pub returns-in-Some-default-AnyLoc : goal.returns-in-Some-default-AnyLoc
returns-in-Some-default-AnyLoc g c =
    let path = path_at (g.S.ShapeStore.shapes c.args.shapes.now) c.args.object.now.shape in
    let found : find_on path c.args.name ≡ Some (c.in-Some-default-AnyLoc.place, AnyLoc) = cc in
    place_told _ path (slot_at c.args.object.now) c.args.name c.in-Some-default-AnyLoc.place AnyLoc c.requires.object.valid found
    c.told_at.result c.told_at.ensures
