-- The law at the close: all threads have ended, so nobody has the turn, and the history of the run is shown.
use Rattle.std.proofs.Common.{◌≡◌, ℕ, true, List, [], ◌∷◌, ◌++◌, length, set, get_or, Some, refl, sym, ap, ◌∙◌, subst, inl, ⊎_elim, append-nil, arith}
use Rattle.std.proofs.lemmas.List.{get_or-set_same}
use mathlib.Core.Option.{some, some-injective}
use lib.ListN.{get_elem?}
use Rattle.atomic_table.specs.Table.{State, Me, Allows, Seen, Final, keeps}
use Rattle.rb_shared.specs.Closing.{AreFull}
use Rattle.rb_shared.specs.History.{History}
use Rattle.rb_shared.specs.Lists.{Has}
use Rattle.rb_shared.specs.Placing.{history_of}
use Rattle.rb_shared.specs.Threads.{AllGathered}
use Rattle.rb_shared.specs.View.{known_logs}
use Rattle.shared_run.specs.Closing.{ShowsRun, ShowsAll, SinkClosed}
use Rattle.shared_run.proofs.Closing.{all_ended, open_hides, refusals_have, shows_all, sink_closed}
use Rattle.heap_core.specs.Places.{turn_word, used_word}
use Rattle.heap_core.specs.Handing.{Plan, Handed, Slot, Homes}
use Rattle.heap_core.specs.Blocks.{TheTurn}
use Rattle.heap_core.specs.View.{Holder, maker, showing}
use Rattle.heap_core.specs.Moment.{At}
use Rattle.heap_core.specs.Turns.{Any, HasNone, Free, Taken}
use Rattle.heap_core.specs.Rule.{Stands, Below, Kept, moment}
use Rattle.heap_core.specs.Closing.{ShowsNow, Overflows}
use Rattle.heap_core.proofs.Holders.{each_set}
use Rattle.heap_core.proofs.Owes.{whole}
use Rattle.heap_core.proofs.Rooms.{place_inside}
use Rattle.heap_core.proofs.Seats.{alone_at, note_same}
use Rattle.heap_core.proofs.Steps.{whole_part, tree_stays, quiet_step}
use Rattle.heap_core.proofs.Turning.{turn_fits}

shown_is : (g h : History) → Some g ≡ Some h → g ≡ h
shown_is g h e = cc

module _ (plan : Plan) (s : State Slot Holder) (r : Kept plan s) (id : ℕ) (k : Holder) (seat : At s.views id k) (live : k.live ≡ true) (main : k.view.thread ≡ 0) (over : k.view.ended ≡ true) (gathered : AllGathered (known_logs k.view)) where
  abbrev history : History
  history = history_of r.run.events r.run.refusals

  all_over : ShowsRun r.run history
  all_over = (refl, all_ended plan.slots r.run k.view r.is_run (r.knows id k seat live) main over gathered)

  -- nobody has the turn
  pub free_at_last : Free (moment plan s r.run r.lines r.blocks)
  free_at_last = ⊎_elim (λ f. f) (λ (t : Taken (moment plan s r.run r.lines r.blocks)). absurd (open_hides plan.slots r.run t.who.view (r.knows t.holder t.who t.there t.live) t.going history all_over)) (r.each TheTurn r.turn)

  -- the history is shown to the pass of the main thread, with the turn word as it is
  front_kept : Kept plan (whole (set s.words turn_word (get_or s.words turn_word 0)) s.homes (set s.views id (showing k history)))
  front_kept =
      let f = free_at_last in
      let w : Holder = showing k history in
      let n : ℕ = get_or s.words turn_word 0 in
      quiet_step plan s r s.homes id k w turn_word n TheTurn seat live live refl refl r.turn (place_inside TheTurn) [] record {
        note = note_same k.view k.view refl;
        due = refl;
        late = r.late id k seat live;
        knows_more = λ c h. h;
        knows_in = λ c h. subst (λ bs. Has bs c) (sym (append-nil r.blocks)) (r.known id k c seat h);
        left = λ o h. whole_part k.own o h;
        single = λ x o p h g. r.laid.single x id k o p seat h g;
        counted = omega arith;
        was_own = λ x c h. absurd h;
        bounded = λ c h. absurd h;
        parted = λ x c d h. absurd h;
        doing = λ x far. refl;
        slot = λ off. refl;
        anew = λ c hc is. subst (Stands (moment plan (whole (set s.words turn_word n) s.homes (set s.views id w)) r.run r.lines (r.blocks ++ []))) (sym (alone_at plan s r TheTurn r.turn tt (λ h. h) c hc is)) (inl record {
          word = get_or-set_same s.words turn_word n 0 (turn_fits plan s r id k seat live) ∙ f.word;
          what = f.what;
          home = f.home;
          handed = f.handed;
          nobody = each_set (λ j u. u.live ≡ true → HasNone u) s.views id w (f.nobody id k seat) (λ j u _ a. f.nobody j u a);
        });
        new = λ c h. absurd h;
        no_thing = λ c h. absurd h;
        tree = tree_stays s r id k w seat live (λ c h. h) refl;
        grows = λ c h. absurd h;
        linked = λ shape place h. absurd h;
        once = λ home link to number h. absurd h;
        few = λ home link to number h. absurd h;
        deep = λ shape place h. absurd h;
        shapes_on = λ shape h. h;
        shows = λ h e. (sym (shown_is history h e), all_over.1);
        shapes_new = λ shape place h. absurd h;
        homes = λ c h. absurd h;
        one_shape = λ shape place to h. absurd h;
      }

  legal_now : ShowsAll k.view.slots (known_logs k.view) history
  legal_now = let own = r.knows id k seat live in subst (λ n. ShowsAll n (known_logs k.view) history) (sym own.same_slots) (shows_all plan.slots r.run k.view r.is_run own main over gathered)

  -- what the slot has then, of a pass that shows the history
  closed_now : (h : History) → k.front ≡ Some h → (what : Handed) × (s.homes ≡ some (Some what) ∷ []) × SinkClosed (Overflows k.size) plan.begun what.sink h
  closed_now h shown =
      let f = free_at_last in
      let c = sink_closed Any plan.begun r.run f.what.sink f.handed.2 in
      (f.what, f.home, subst (SinkClosed (Overflows k.size) plan.begun f.what.sink) (sym (r.shows id k seat h shown).0) (c.0, c.1, c.2, full))
    where
      full : AreFull (Overflows k.size) history
      full q h used wanted words =
          let below = refusals_have (Below (get_or s.words used_word 0) (length s.words)) r.run r.refused q h used wanted words in
          let over = below.1 in
          let size = r.laid.size id k seat live in
          omega (arith, over, size)

pub shows_history : (plan : Plan) (count id : ℕ) (me : Me Slot Holder) → me.0.live ≡ true → me.0.view.thread ≡ 0 → me.0.view.ended ≡ true → AllGathered (known_logs me.0.view)
    → Allows (Kept plan) count id me turn_word (λ n. n) (λ _ m'. ShowsNow me m')
shows_history plan count id me live main over gathered s r size seat small = (
  showing me.0 (history plan s r id me.0 seat live main over gathered),
  keeps,
  tt,
  front_kept plan s r id me.0 seat live main over gathered,
  (history plan s r id me.0 seat live main over gathered, refl, legal_now plan s r id me.0 seat live main over gathered),
)

-- there is one slot
pub one_slot : (plan : Plan) (ws : List ℕ) (xs : List Slot) (id : ℕ) (k k0 : Holder) (h : History) → k ≡ maker (showing k0 h) → Final (Seen (Kept plan) id k) ws xs → k0.live ≡ true → k0.view.thread ≡ 0 → k0.view.ended ≡ true → AllGathered (known_logs k0.view) → length xs ≡ 1
one_slot plan ws xs id k k0 h same f live main over gathered =
    let free = free_at_last plan f.0 f.1.0 id (maker (showing k0 h)) (subst (At f.0.views id) same f.1.1) live main over gathered in
    sym f.3 ∙ ap (λ (hs : Homes). length hs) free.home

-- what the slot has at the close, of the seat from which the front was split
pub closes_with : (plan : Plan) (ws : List ℕ) (xs : List Slot) (id : ℕ) (k k0 : Holder) (y : Slot) (h : History) (words : ℕ) → k ≡ maker (showing k0 h) → Final (Seen (Kept plan) id k) ws xs → get_elem? xs 0 ≡ some y
    → k0.live ≡ true → k0.view.thread ≡ 0 → k0.view.ended ≡ true → AllGathered (known_logs k0.view) → k0.size ≡ words → (what : Handed) × (y ≡ Some what) × SinkClosed (Overflows words) plan.begun what.sink h
closes_with plan ws xs id k k0 y h words same f at live main over gathered size =
    let s = f.0 in
    let w : Holder = maker (showing k0 h) in
    let c = closed_now plan s f.1.0 id w (subst (At s.views id) same f.1.1) live main over gathered h refl in
    let there : get_elem? xs 0 ≡ some (Some c.0) = f.4 0 (Some c.0) (ap (λ hs. get_elem? hs 0) c.1) in
    (c.0, some-injective y (Some c.0) (sym at ∙ there), subst (λ n. SinkClosed (Overflows n) plan.begun c.0.sink h) size c.2)
