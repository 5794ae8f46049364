use Rattle.std.proofs.Common.{◌≡◌, ◌++◌}
use Rattle.std.specs.Prelude.{reverse}
use Rattle.shape_core.specs.Shape.{path_at}
use Rattle.shape_core.specs.Path.{names_on}
use Rattle.local_heap.proofs.Walking.{Known, rest_of, steps_left}
use Rattle.local_heap.proofs.told.names_of.Given as goal

abbrev pub invariant-loop-at : goal.invariant-loop-at
invariant-loop-at g l = record {
  known : Known (g.S.ShapeStore.shapes l.shapes) l.at;
  names : names_on (rest_of (g.S.ShapeStore.shapes l.shapes) l.at) ++ reverse l.names.items ≡ names_on (path_at (g.S.ShapeStore.shapes l.shapes) l.fn.shape);
}

abbrev pub decreases-loop-at : goal.decreases-loop-at
decreases-loop-at g l = steps_left (g.S.ShapeStore.shapes l.shapes) l.at
