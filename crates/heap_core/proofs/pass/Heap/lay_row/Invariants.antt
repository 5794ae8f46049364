use Rattle.std.proofs.Common.{◌≡◌}
use Rattle.heap_core.specs.Passes.{holder_of}
use Rattle.heap_core.specs.View.{with_front}
use Rattle.heap_core.proofs.pass.Heap.lay_row.Given as goal

abbrev pub invariant-row : goal.invariant-row
invariant-row g l = (l.pass.badge.table_id ≡ l.initial.pass.badge.table_id) × (holder_of l.pass.badge.views ≡ with_front (holder_of l.initial.pass.badge.views) l.at l.i l.row)
