use Rattle.std.proofs.Common.{◌≡◌}
use Rattle.heap_core.specs.Owning.{entry_on}
use Rattle.heap_core.specs.Passes.{holder_of}
use Rattle.heap_core.proofs.pass.Heap.turn_mutex.Given as goal

abbrev pub ghosts-set_owner : goal.ghosts-set_owner
ghosts-set_owner g a = record { entry = entry_on a.step a.thing.now a.act.now a.reply.now }

abbrev pub invariant-tries : goal.invariant-tries
invariant-tries g l = (l.pass.badge.table_id ≡ l.initial.pass.badge.table_id) × (holder_of l.pass.badge.views ≡ holder_of l.initial.pass.badge.views)
