use Rattle.std.proofs.Common.{rules, ◌≡◌, ◌∷◌, [], ℕ, List, get_or, ap, sym, ◌∙◌, subst}
use Rattle.atomic_table.specs.Table.{rest}
use Rattle.turn_store.specs.declared.slot.Slot.{Slot}
use Rattle.turn_store.specs.Slot.{MayTry}
use Rattle.turn_store.proofs.store.TurnStore.enter.Goals as goal

pub slot_mut-requires : goal.slot_mut-requires
slot_mut-requires g c = let t = c.requires.held in (search rules, (t.0, t.1 ∙ ap (λ l. (0, t.0) ∷ rest l) (sym t.1)))

pub attempt-requires : goal.attempt-requires
attempt-requires g c =
    let t = c.requires.held in
    let same : t.0 ≡ c.slot_mut.result.now = ap (λ (l : List (ℕ × Slot g.row.K.Denot)). (get_or l 0 (0, t.0)).1) (sym t.1 ∙ c.slot_mut.ensures.value) in
    record { may = subst (λ (y : Slot g.row.K.Denot). MayTry y.things c.args.thread c.args.call.now c.args.moved.now) same t.2 }

pub returns-clause-moves : goal.returns-clause-moves
returns-clause-moves g c =
    let t = c.requires.held in
    let nothing : rest c.args.seat.now.me.1 ≡ [] = ap rest t.1 in (
      c.slot_mut.result.now,
      c.slot_mut.ensures.value ∙ ap (λ l. (0, c.slot_mut.result.now) ∷ l) nothing,
      (c.attempt.new.self, ap (λ l. (0, c.attempt.new.self) ∷ l) nothing, c.attempt.ensures),
    )
