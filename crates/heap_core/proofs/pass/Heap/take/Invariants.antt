use Rattle.std.proofs.Common.{◌≡◌, Some, None}
use Rattle.heap_core.specs.Passes.{asking, holder_of}
use Rattle.heap_core.proofs.pass.Heap.take.Given as goal

abbrev pub ghosts-take_for : goal.ghosts-take_for
ghosts-take_for g a = record { asking = Some (asking a.act.now); wanted = a.wanted }

abbrev pub ghosts-take_plain : goal.ghosts-take_plain
ghosts-take_plain g a = record { asking = None; wanted = a.wanted }

abbrev pub invariant-tries : goal.invariant-tries
invariant-tries g l = (l.pass.badge.table_id ≡ l.initial.pass.badge.table_id) × (holder_of l.pass.badge.views ≡ holder_of l.initial.pass.badge.views)
