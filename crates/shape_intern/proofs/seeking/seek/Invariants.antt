use Rattle.std.proofs.Common.{◌≡◌, Option}
use Rattle.shape_core.specs.Shape.{Shape}
use Rattle.heap_core.specs.Growing.{Learns}
use Rattle.heap_core.specs.Passes.{holder_of}
use Rattle.shape_intern.specs.Walks.{IsBegun, KnowsTree, Tells}
use Rattle.shape_intern.proofs.Rows.{IsOn, Walks, left_at}
use Rattle.shape_intern.proofs.seeking.seek.Given as goal

abbrev pub invariant-row : goal.invariant-row
invariant-row g l = record {
  of : l.pass.badge.table_id ≡ l.fn.pass.badge.table_id;
  learns : Learns (holder_of l.fn.pass.badge.views) (holder_of l.pass.badge.views);
  tree : KnowsTree (holder_of l.pass.badge.views);
  on : (row : Option Shape) × IsOn (holder_of l.pass.badge.views).blocks row l.at;
  walks : (row : Option Shape) (shape : Shape) → IsBegun (holder_of l.fn.pass.badge.views).blocks row l.first l.link → Tells row shape l.mark.behind l.mark.word → Walks (holder_of l.pass.badge.views).blocks row shape l.at l.end;
}

abbrev pub decreases-row : goal.decreases-row
decreases-row g l = left_at (holder_of l.pass.badge.views).size (holder_of l.pass.badge.views).blocks l.at
