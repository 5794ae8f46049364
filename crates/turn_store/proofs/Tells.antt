-- What the steps of a call tell, put together.
use Rattle.std.proofs.Common.{◌≡◌, ℕ, false, List, [], ◌∷◌, Option, Some, None, sym, ap, ◌∙◌, subst, get_or}
use Rattle.atomic_table.specs.Table.{Me}
use Rattle.rb_model.specs.declared.act.Reply.{Reply}
use Rattle.rb_model.specs.declared.call.Call.{Call as Held}
use Rattle.rb_model.specs.declared.moved.MovedItem.{MovedItem}
use Rattle.rb_model.specs.Doing.{said}
use Rattle.rb_model.specs.Log.{asked}
use Rattle.rb_shared.specs.declared.answer.Answer.{Answer}
use Rattle.rb_shared.specs.declared.answer.Answer.TheVariants as answer
use Rattle.rb_shared.specs.Answers.{entry_of, AnswersIn}
use Rattle.rb_shared.specs.Asking.{MayAsk}
use Rattle.rb_shared.specs.Lists.{Each}
use Rattle.rb_shared.specs.Replies.{MayGive}
use Rattle.rb_shared.specs.Step.{Steps}
use Rattle.rb_shared.specs.Store.{Store}
use Rattle.rb_shared.specs.View.{View}
use Rattle.turn_store.specs.declared.slot.Attempt.TheVariants as attempt
use Rattle.turn_store.specs.declared.slot.Slot.{Slot}
use Rattle.turn_store.specs.Calls.{HasEntered, HasReturned, started_in, refs_of}
use Rattle.turn_store.specs.Holding.{Holder, with_found, released}
use Rattle.shared_run.specs.Run.{Run, IsRun, Knows, MayEnter}
use Rattle.turn_store.specs.Slot.{Attempts, IsDone, MayTry, Stays, with_moved, things_of, sunk_of}
use Rattle.shared_run.specs.Standing.{NamesHeld}
use Rattle.turn_store.specs.Turns.{Never, Known, Takes, HasTurn, InHand, MayMake, MayRefuse, MayGiveUp, found_in}
use Rattle.shared_run.specs.Run.{IsNote}
use Rattle.turn_store.proofs.Asks.{asks_new, asks_starts, asks_steps, asks_enters, asks_refs, asks_gives}

-- ---- plain stores

pub may_try : (slots : ℕ) (v : View) (z : Store) (t : ℕ) (call : Held) (moved : List MovedItem) → Known slots v z → MayAsk v call moved → t ≡ v.thread → MayTry z t call moved
may_try slots v z t call moved known may own = subst (λ n. MayTry z n call moved) (sym own) (subst (λ x. MayTry x v.thread call moved) known.1
    (asks_new slots known.0 v known.2 known.3 call moved may, may.things, asks_starts slots known.0 v known.2 known.3 call moved may))

-- what the rule and the contract ask of a call that was done
abbrev IsMade : ℕ → View → Store → (step : ℕ) → Held → List MovedItem → Reply → Store → Type 0
IsMade slots v z step call moved r z' =
    MayEnter v z (entry_of step call moved (said r)) × Steps slots z v.thread (entry_of step call moved (said r)) z' × Each (NamesHeld z') (refs_of r moved) × MayGive v.generation v.slots (asked call) (said r)

pub is_made : (slots : ℕ) (v : View) (z : Store) (t step : ℕ) (call : Held) (moved : List MovedItem) (r : Reply) (z' : Store) → Known slots v z → MayAsk v call moved → t ≡ v.thread → v.ended ≡ false
    → IsDone slots t (asked call) r (with_moved z moved) z' → IsMade slots v z step call moved r z'
is_made slots v z t step call moved r z' known may own going done =
    subst (λ x. IsDone slots v.thread (asked call) r (with_moved x moved) z' → IsMade slots v x step call moved r z') known.1 here (subst (λ n. IsDone slots n (asked call) r (with_moved z moved) z') own done)
  where
    here : IsDone slots v.thread (asked call) r (with_moved known.0.store moved) z' → IsMade slots v known.0.store step call moved r z'
    here d = (
      asks_enters slots known.0 v known.2 known.3 call moved may r z' d.0 d.2 d.3 step,
      asks_steps slots known.0 v known.2 known.3 call moved may r z' d.0 d.2 d.3 step,
      asks_refs slots known.0 v known.2 known.3 call moved may r z' d.0 d.2 d.3,
      asks_gives slots known.0 v known.2 known.3 call moved may r z' d.0 d.2 d.3 going d.1,
    )

-- ---- seats

module _ {S : Type 0} where
  pub one_in_hand : (m : Me S Holder) (x y : S) → m.1 ≡ (0, x) ∷ [] → m.1 ≡ (0, y) ∷ [] → x ≡ y
  one_in_hand m x y a b = ap (λ (l : List (ℕ × S)). (get_or l 0 (0, x)).1) (sym a ∙ b)

module _ {S : Type 0} (store_of : S → Store) (sink_of : S → Rattle.shared_run.specs.Run.Sunk) where
  pub took : (slots : ℕ) (m0 m m' : Me S Holder) (n : ℕ) → m ≡ m0 → m0.1 ≡ [] → n ≡ 0 → Takes store_of sink_of slots m n m' → HasTurn store_of sink_of m0.0 m' (λ y. Known slots m0.0.view (store_of y))
  took slots m0 m m' n same nothing zero_is t =
      let u = subst (λ (x : Me S Holder). Takes store_of sink_of slots x n m') same t in
      let h = u.0 zero_is in
      (h.0, h.1 ∙ ap (λ c. (with_found m0.0 (Some (found_in store_of sink_of h.0)), (0, h.0) ∷ c)) nothing, h.2)

  pub in_hand : (k : Holder) (m : Me S Holder) (P Q : S → Type 0) → HasTurn store_of sink_of k m P → ((y : S) → P y → Q y) → InHand m Q
  in_hand k m P Q h f = (h.0, ap (λ (x : Me S Holder). x.1) h.1, f h.0 h.2)

module _ {K : Type 0} (told : K → Option (List ℕ)) (faults : K → ℕ) where
  abbrev pub sink : Slot K → Rattle.shared_run.specs.Run.Sunk
  sink = sunk_of told faults

  abbrev pub Turn : ℕ → Holder → Me (Slot K) Holder → Type 0
  Turn slots k m = HasTurn things_of sink k m (λ y. Known slots k.view y.things)

  -- the seat that took the turn is the one that the call began with
  pub turn_as : (slots : ℕ) (m0 m m' : Me (Slot K) Holder) → m ≡ m0 → Turn slots m.0 m' → Turn slots m0.0 m'
  turn_as slots m0 m m' same t = subst (λ (x : Me (Slot K) Holder). Turn slots x.0 m') same t

  -- the view of the seat that looked at the slot
  pub view_is : (slots : ℕ) (k : Holder) (m m' : Me (Slot K) Holder) → Turn slots k m → m'.0 ≡ m.0 → m'.0.view ≡ k.view
  view_is slots k m m' h same = ap (λ (u : Holder). u.view) same ∙ ap (λ (x : Me (Slot K) Holder). x.0.view) h.1

  holding_is : (slots : ℕ) (k : Holder) (m m' : Me (Slot K) Holder) → (h : Turn slots k m) → m'.0 ≡ m.0 → m'.0.holding ≡ Some (found_in things_of sink h.0)
  holding_is slots k m m' h same = ap (λ (u : Holder). u.holding) same ∙ ap (λ (x : Me (Slot K) Holder). x.0.holding) h.1

  first_is : (slots : ℕ) (k : Holder) (m : Me (Slot K) Holder) (y : Slot K) → (h : Turn slots k m) → m.1 ≡ (0, y) ∷ [] → y ≡ h.0
  first_is slots k m y h at = one_in_hand m y h.0 at (ap (λ (x : Me (Slot K) Holder). x.1) h.1)

  -- the entry of a call that was done
  pub may_make : (slots by_slots : ℕ) (k : Holder) (m m' : Me (Slot K) Holder) (t step : ℕ) (call : Held) (moved : List MovedItem) (r : Reply) → Turn slots k m → m'.0 ≡ m.0 → by_slots ≡ slots
      → MayAsk k.view call moved → t ≡ k.view.thread → k.view.ended ≡ false → HasEntered m (Attempts told faults by_slots t call moved (attempt.Done r)) m'
      → MayMake things_of sink (entry_of step call moved (said r)) (refs_of r moved) slots m'
  may_make slots by_slots k m m' t step call moved r h same counts may own going moves =
      let y = h.0 in
      let z = moves.2.0 in
      let first : moves.0 ≡ y = first_is slots k m moves.0 h moves.1 in
      let tried = subst (λ x. Attempts told faults by_slots t call moved (attempt.Done r) x z) first moves.2.2 in
      let made : IsMade slots k.view y.things step call moved r z.things =
      is_made slots k.view y.things t step call moved r z.things h.2 may own going (subst (λ n. IsDone n t (asked call) r (with_moved y.things moved) z.things) counts tried.0) in
      let view = view_is slots k m m' h same in (
        found_in things_of sink y,
        holding_is slots k m m' h same,
        subst (λ v. MayEnter v y.things (entry_of step call moved (said r))) (sym view) made.0,
        (z, moves.2.1, (subst (λ (v : View). Steps slots y.things v.thread (entry_of step call moved (said r)) z.things) (sym view) made.1, made.2, tried.1)),
      )

  -- and the reply that it may have
  pub may_give : (slots by_slots : ℕ) (k : Holder) (m m' : Me (Slot K) Holder) (t : ℕ) (call : Held) (moved : List MovedItem) (r : Reply) → Turn slots k m → by_slots ≡ slots
      → MayAsk k.view call moved → t ≡ k.view.thread → k.view.ended ≡ false → HasEntered m (Attempts told faults by_slots t call moved (attempt.Done r)) m' → MayGive k.view.generation k.view.slots (asked call) (said r)
  may_give slots by_slots k m m' t call moved r h counts may own going moves =
      let y = h.0 in
      let z = moves.2.0 in
      let first : moves.0 ≡ y = first_is slots k m moves.0 h moves.1 in
      let tried = subst (λ x. Attempts told faults by_slots t call moved (attempt.Done r) x z) first moves.2.2 in
      let made : IsMade slots k.view y.things 0 call moved r z.things =
      is_made slots k.view y.things t 0 call moved r z.things h.2 may own going (subst (λ n. IsDone n t (asked call) r (with_moved y.things moved) z.things) counts tried.0) in made.3

  pub may_refuse : (slots by_slots : ℕ) (k : Holder) (m m' : Me (Slot K) Holder) (t : ℕ) (call : Held) (moved : List MovedItem) → Turn slots k m → m'.0 ≡ m.0
      → HasEntered m (Attempts told faults by_slots t call moved attempt.SinkFailed) m' → MayRefuse things_of sink (asked call) m'
  may_refuse slots by_slots k m m' t call moved h same moves =
      let y = h.0 in
      let z = moves.2.0 in
      let first : moves.0 ≡ y = first_is slots k m moves.0 h moves.1 in
      let tried = subst (λ x. Attempts told faults by_slots t call moved attempt.SinkFailed x z) first moves.2.2 in
      (found_in things_of sink y, holding_is slots k m m' h same, (z, moves.2.1, tried.1))

  pub may_give_up : (slots : ℕ) (k : Holder) (m m' : Me (Slot K) Holder) (v : View) → Turn slots k m → m'.0 ≡ m.0 → IsNote m'.0.view v → HasEntered m (Stays told faults) m' → MayGiveUp things_of sink v m'
  may_give_up slots k m m' v h same note moves =
      let y = h.0 in
      let z = moves.2.0 in
      let first : moves.0 ≡ y = first_is slots k m moves.0 h moves.1 in
      let tried = subst (λ x. Stays told faults x z) first moves.2.2 in
      (found_in things_of sink y, holding_is slots k m m' h same, note, (z, moves.2.1, tried))

  -- ---- what is left of the seat

  pub as_returned : (slots : ℕ) (k : Holder) (m m' m'' : Me (Slot K) Holder) (v w : View) → Turn slots k m → m'.0 ≡ m.0 → k.holding ≡ None → HasReturned m' v m'' → v ≡ w → m'' ≡ (with_found (record k { view = w }) None, [])
  as_returned slots k m m' m'' v w h same free back is =
      back ∙ ap (λ (u : Holder). (released u v, [])) (same ∙ ap (λ (x : Me (Slot K) Holder). x.0) h.1) ∙ ap (λ (x : View). (released k x, [])) is

-- ---- answers

pub answer_thread : (v : View) (step : ℕ) (call : Held) (ms : List MovedItem) (a : Answer) (ms' : List MovedItem) (w : View) → AnswersIn Never v step call ms a ms' w → w.thread ≡ v.thread
answer_thread v step call ms (answer.Done r) ms' w h = ap (λ (x : View). x.thread) h.0
answer_thread v step call ms (answer.Full used wanted) ms' w h = ap (λ (x : View). x.thread) h.0
answer_thread v step call ms answer.SinkFailed ms' w h = ap (λ (x : View). x.thread) h.0
answer_thread v step call ms answer.Memory ms' w h = ap (λ (x : View). x.thread) h.0

pub answer_unsplit : (v : View) (step : ℕ) (call : Held) (ms : List MovedItem) (a : Answer) (ms' : List MovedItem) (w : View) → AnswersIn Never v step call ms a ms' w → w.unsplit ≡ started_in a
answer_unsplit v step call ms (answer.Done r) ms' w h = ap (λ (x : View). x.unsplit) h.0
answer_unsplit v step call ms (answer.Full used wanted) ms' w h = ap (λ (x : View). x.unsplit) h.0
answer_unsplit v step call ms answer.SinkFailed ms' w h = ap (λ (x : View). x.unsplit) h.0
answer_unsplit v step call ms answer.Memory ms' w h = ap (λ (x : View). x.unsplit) h.0
