use Rattle.std.proofs.Common.{◌≡◌}
use Rattle.shape_core.specs.Shape.{Shape}
use Rattle.heap_core.specs.Blocks.{ShapeAt}
use Rattle.heap_core.specs.Growing.{Learns}
use Rattle.heap_core.specs.Passes.{holder_of}
use Rattle.heap_core.specs.View.{Knows}
use Rattle.shape_intern.proofs.Finds.{IsWay, depth_at}
use Rattle.shape_intern.proofs.finding.find.Given as goal

abbrev pub invariant-up : goal.invariant-up
invariant-up g l = record {
  of : l.pass.badge.table_id ≡ l.fn.pass.badge.table_id;
  learns : Learns (holder_of l.fn.pass.badge.views) (holder_of l.pass.badge.views);
  way : (shape : Shape) → Knows (holder_of l.fn.pass.badge.views) (ShapeAt shape l.shape_at) → IsWay (holder_of l.pass.badge.views) l.at l.word l.name shape;
}

abbrev pub decreases-up : goal.decreases-up
decreases-up g l = depth_at (holder_of l.pass.badge.views).blocks l.at
