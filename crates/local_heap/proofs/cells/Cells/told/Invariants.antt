use Rattle.std.proofs.Common.{◌≡◌, map, take}
use Rattle.rb_model.specs.Doing.{slot}
use Rattle.shape_core.specs.Shape.{path_at}
use Rattle.local_heap.specs.Slots.{slot_at}
use Rattle.local_heap.specs.Fields.{field_of}
use Rattle.local_heap.specs.Cells.{home_of}
use Rattle.local_heap.proofs.cells.Cells.told.Given as goal

abbrev pub invariant-loop-name : goal.invariant-loop-name
invariant-loop-name g l =
    map slot l.fields.items
    ≡ map (field_of (home_of (g.S.ShapeStore.shapes l.shapes) l.self) (path_at (g.S.ShapeStore.shapes l.shapes) l.object.shape) (slot_at l.object)) (take l.name-index l.name-items)
