use Rattle.std.proofs.Common.{◌≡◌}
use Rattle.turn_store.proofs.store.TurnStore.take_turn.Given as goal

abbrev pub invariant-turns : goal.invariant-turns
invariant-turns g l = (l.seat.table_id ≡ l.initial.seat.table_id) × (l.seat.id ≡ l.initial.seat.id) × (l.seat.me ≡ l.initial.seat.me)
