use Rattle.std.proofs.Common.{◌≡◌}
use Rattle.heap_core.specs.Passes.{holder_of}
use Rattle.heap_core.proofs.pass.Heap.turn_in.Given as goal

abbrev pub invariant-tries : goal.invariant-tries
invariant-tries g l = (l.pass.badge.table_id ≡ l.initial.pass.badge.table_id) × (holder_of l.pass.badge.views ≡ holder_of l.initial.pass.badge.views)
