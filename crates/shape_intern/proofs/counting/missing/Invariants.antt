use Rattle.std.proofs.Common.{◌≡◌}
use Rattle.shape_core.specs.Shape.{root_of}
use Rattle.heap_core.specs.Growing.{Learns}
use Rattle.heap_core.specs.Passes.{holder_of}
use Rattle.shape_intern.proofs.Counts.{IsAt}
use Rattle.shape_intern.proofs.counting.missing.Given as goal

abbrev pub invariant-way : goal.invariant-way
invariant-way g l = record {
  of : l.pass.badge.table_id ≡ l.fn.pass.badge.table_id;
  learns : Learns (holder_of l.fn.pass.badge.views) (holder_of l.pass.badge.views);
  place : IsAt (holder_of l.fn.pass.badge.views) (holder_of l.pass.badge.views) (root_of l.class) l.path l.i l.at;
}
