use Rattle.std.proofs.Common.{rules, refl, inl, inr}
use Rattle.turn_store.proofs.Passing.{notes}
use Rattle.turn_store.proofs.store.TurnStore.note.Goals as goal

pub load-requires : goal.load-requires
load-requires g c = (search rules, search rules, notes _ _ _ _ _ _ _ _ (Rattle.std.proofs.Common.None, inr refl, refl))
