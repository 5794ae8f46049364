use Rattle.std.proofs.Common.{◌≡◌, ◌<◌, ◌∙◌, length, ap, sym, Some, rules}
use Rattle.std.specs.Prelude.{slice_get}
use Rattle.local_heap.specs.Cells.{class_in}
use Rattle.local_heap.proofs.Reading.{class_found, cell_found}
use Rattle.local_heap.proofs.cells.Cells.class_of.Goals as goal

pub returns-in-Empty : goal.returns-in-Empty
returns-in-Empty g c =
    let shapes = g.S.ShapeStore.shapes c.args.shapes.now in
    let within : c.args.serial < length c.deref.result.now = search rules in
    let found : slice_get c.args.self.now.items.items c.args.serial ≡ Some c.in-Some.cell.now
    = cell_found c.args.self.now.items.items c.deref.result.now c.args.serial c.in-Some.cell.now c.deref.ensures.value within c.in-Some.ensures.lookup.1 in
    sym (class_found shapes c.args.self.now.items.items c.args.serial c.in-Some.cell.now found ∙ ap (class_in shapes) c.in-Empty.is)

pub returns-in-Object : goal.returns-in-Object
returns-in-Object g c =
    let shapes = g.S.ShapeStore.shapes c.args.shapes.now in
    let within : c.args.serial < length c.deref.result.now = search rules in
    let found : slice_get c.args.self.now.items.items c.args.serial ≡ Some c.in-Some.cell.now
    = cell_found c.args.self.now.items.items c.deref.result.now c.args.serial c.in-Some.cell.now c.deref.ensures.value within c.in-Some.ensures.lookup.1 in
    ap Some c.facts.ensures.class ∙ sym (class_found shapes c.args.self.now.items.items c.args.serial c.in-Some.cell.now found ∙ ap (class_in shapes) c.in-Object.is)

pub returns-in-List : goal.returns-in-List
returns-in-List g c =
    let shapes = g.S.ShapeStore.shapes c.args.shapes.now in
    let within : c.args.serial < length c.deref.result.now = search rules in
    let found : slice_get c.args.self.now.items.items c.args.serial ≡ Some c.in-Some.cell.now
    = cell_found c.args.self.now.items.items c.deref.result.now c.args.serial c.in-Some.cell.now c.deref.ensures.value within c.in-Some.ensures.lookup.1 in
    sym (class_found shapes c.args.self.now.items.items c.args.serial c.in-Some.cell.now found ∙ ap (class_in shapes) c.in-List.is)

pub returns-in-Pairs : goal.returns-in-Pairs
returns-in-Pairs g c =
    let shapes = g.S.ShapeStore.shapes c.args.shapes.now in
    let within : c.args.serial < length c.deref.result.now = search rules in
    let found : slice_get c.args.self.now.items.items c.args.serial ≡ Some c.in-Some.cell.now
    = cell_found c.args.self.now.items.items c.deref.result.now c.args.serial c.in-Some.cell.now c.deref.ensures.value within c.in-Some.ensures.lookup.1 in
    sym (class_found shapes c.args.self.now.items.items c.args.serial c.in-Some.cell.now found ∙ ap (class_in shapes) c.in-Pairs.is)

pub returns-in-Mutex : goal.returns-in-Mutex
returns-in-Mutex g c =
    let shapes = g.S.ShapeStore.shapes c.args.shapes.now in
    let within : c.args.serial < length c.deref.result.now = search rules in
    let found : slice_get c.args.self.now.items.items c.args.serial ≡ Some c.in-Some.cell.now
    = cell_found c.args.self.now.items.items c.deref.result.now c.args.serial c.in-Some.cell.now c.deref.ensures.value within c.in-Some.ensures.lookup.1 in
    sym (class_found shapes c.args.self.now.items.items c.args.serial c.in-Some.cell.now found ∙ ap (class_in shapes) c.in-Mutex.is)
