use Rattle.std.proofs.Common.{◌≡◌, ◌∷◌, [], ◌++◌, List, refl, ap, sym, ◌∙◌, subst}
use Rattle.atomic_table.specs.Table.{opening}
use Rattle.turn_store.specs.declared.slot.Slot.{Slot}
use Rattle.turn_store.specs.Holding.{main_holder}
use Rattle.turn_store.specs.Slot.{begun_of, sunk_of, things_of}
use Rattle.turn_store.specs.Turns.{Kept}
use Rattle.turn_store.proofs.Passing.{begins}
use Rattle.turn_store.proofs.store.TurnStore.new.Goals as goal

pub new-requires-2 : goal.new-requires-2
new-requires-2 g c =
    let y = c.in_ok-slot.slot in
    let made = c.in_ok-slot.ensures in
    let begun = begun_of g.K.Sink.told g.K.Sink.faults c.of.result.value in
    let one : c.push.new.self.items ≡ y ∷ [] = c.in_default.ensures.items ∙ ap (λ l. l ++ y ∷ []) c.new-places.ensures.items in
    let same : y.out ≡ c.of.result.value = made.sink.0 ∙ sym c.of.ensures in
    let sunk : sunk_of g.K.Sink.told g.K.Sink.faults y ≡ begun = (λ i. record { told = g.K.Sink.told (same i); faults = g.K.Sink.faults (same i); failed = made.sink.1 i }) in
    subst (λ (l : List (Slot g.row.K.Denot)). Kept things_of (sunk_of g.K.Sink.told g.K.Sink.faults) c.args.slots begun (opening (0 ∷ []) l (main_holder c.args.slots))) (sym one)
    (begins things_of (sunk_of g.K.Sink.told g.K.Sink.faults) c.args.slots begun y made.things sunk refl)
