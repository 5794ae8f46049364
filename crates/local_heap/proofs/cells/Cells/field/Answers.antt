use Rattle.std.proofs.Common.{◌∙◌, sym, arith}
use Rattle.shape_core.specs.Shape.{path_at}
use Rattle.shape_core.proofs.Places.{below}
use Rattle.local_heap.proofs.cells.Cells.field.Goals as goal

pub read_at-requires-clause-within : goal.read_at-requires-clause-within
read_at-requires-clause-within g c =
    omega (arith, below (path_at (g.S.ShapeStore.shapes c.args.shapes.now) c.args.object.now.shape) c.args.name c.in-Some.place c.in-Some.kind (sym c.find.ensures ∙ c.in-Some.is), c.requires.object.long)
