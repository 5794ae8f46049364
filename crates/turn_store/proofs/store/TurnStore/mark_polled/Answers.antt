use Rattle.std.proofs.Common.{rules, refl, inl}
use Rattle.turn_store.proofs.Passing.{notes}
use Rattle.turn_store.proofs.store.TurnStore.mark_polled.Goals as goal

pub load-requires : goal.load-requires
load-requires g c = (search rules, search rules, notes _ _ _ _ _ _ _ _ (c.into_seat-seat.result.me.0.view.unsplit, inl refl, refl))
