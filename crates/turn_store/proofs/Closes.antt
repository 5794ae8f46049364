-- At the close the pass of the main thread knows every log whole.
use Rattle.std.proofs.Common.{◌≡◌, ◌+◌, ◌⊎◌, ℕ, true, false, List, [], ◌∷◌, ◌++◌, length, set, slice_index, Some, None, refl, sym, ap, ◌∙◌, subst, inl, inr, ⊎_elim, true≢false}
use mathlib.Core.Option.{some, some-injective}
use lib.ListN.{get_elem?}
use Rattle.atomic_table.specs.Table.{State, Me, Act, keeps, stepped, Valid, carried_after, Allows, Splits, Seen, Final}
use Rattle.atomic_table.proofs.Lists.{set_again, at_longer}
use Rattle.rb_model.specs.Log.{Log, has_end}
use Rattle.rb_shared.specs.History.{History}
use Rattle.rb_shared.specs.Placing.{history_of}
use Rattle.rb_shared.specs.Store.{Store}
use Rattle.rb_shared.specs.Threads.{AllGathered}
use Rattle.rb_shared.specs.View.{known_logs}
use Rattle.shared_run.specs.Run.{Run, Sunk, Knows, IsOver, Stands}
use Rattle.turn_store.specs.Holding.{Holder, with_front, front_holder}
use Rattle.shared_run.specs.Closing.{ShowsRun, SinkClosed}
use Rattle.shared_run.proofs.Closing.{all_ended, shows_all, sink_closed}
use Rattle.turn_store.specs.Turns.{Never, At, Claims, Free, Taken, Kept}
use Rattle.turn_store.specs.Fronts.{ShowsNow}
use Rattle.turn_store.proofs.Keeps.{each_set, each_snoc, apart_set}
use Rattle.turn_store.proofs.Passing.{turn_views}

module _ {S : Type 0} (store_of : S → Store) (sink_of : S → Sunk) (slots : ℕ) (begun : Sunk) where
  abbrev Rule : State S Holder → Type 0
  Rule = Kept store_of sink_of slots begun

  -- no seat has the turn
  pub all_free : (s : State S Holder) (r : Rule s) (id : ℕ) (k : Holder) → At s.views id k → k.live ≡ true → k.view.thread ≡ 0 → k.view.ended ≡ true → AllGathered (known_logs k.view) → Free store_of sink_of begun r.run s
  all_free s r id k at live main over gathered = ⊎_elim (λ f. f) (λ t. absurd (busy t)) r.turn
    where
      busy : Taken store_of sink_of begun r.run s → ⊥
      busy t =
          let own = r.knows t.holder t.who t.there t.live in
          let open_log : has_end t.who.view.log.entries ≡ false = subst (λ b. IsOver b t.who.view.log) t.going own.over in
          true≢false (sym (all_ended slots r.run k.view r.is_run (r.knows id k at live) main over gathered t.who.view.thread own.within) ∙ (ap (λ (l : Log). has_end l.entries) (sym own.log) ∙ open_log))

  -- the history is shown to the pass of the main thread
  abbrev Shown : State S Holder → ℕ → Me S Holder → List ℕ → Type 0
  Shown s id me ws = (w : Holder) × (a : Act S) × Valid s.homes me.1 a × Rule (stepped record { words = ws; homes = s.homes; views = s.views } 0 (slice_index ws 0) id me.1 w a) × ShowsNow slots me (w, carried_after me.1 a)

  pub shows : (count id : ℕ) (me : Me S Holder) → me.0.live ≡ true → me.0.view.thread ≡ 0 → me.0.view.ended ≡ true → AllGathered (known_logs me.0.view) → Allows Rule count id me 0 (λ n. n) (λ _ m'. ShowsNow slots me m')
  shows count id me live main over gathered s r size at small =
      let f = all_free s r id me.0 at live main over gathered in
      let k : Holder = me.0 in
      let own = r.knows id k at live in
      let h : History = history_of r.run.events r.run.refusals in
      let w : Holder = with_front k h in
      let ended = all_ended slots r.run k.view r.is_run own main over gathered in
      subst (Shown s id me) (sym f.word) (
        w,
        keeps,
        tt,
        record {
          run = r.run;
          is_run = r.is_run;
          knows = each_set (λ j u. u.live ≡ true → Knows slots r.run u.view) s.views id w (λ _. own) (λ j u _ a. r.knows j u a);
          shows = each_set (λ j u. (g : History) → u.front ≡ Some g → ShowsRun r.run g) s.views id w (λ g e. (sym (same_front h g e), ended)) (λ j u _ a. r.shows j u a);
          apart = apart_set s.views id k w r.apart at (λ n c. inl (c.0, c.1));
          turn = inl record {
            word = refl;
            value = f.value;
            home = f.home;
            is_of = f.is_of;
            none_holds = each_set (λ j u. u.holding ≡ None) s.views id w (f.none_holds id k at) (λ j u _ a. f.none_holds j u a);
          };
        },
        (h, refl, shows_all slots r.run k.view r.is_run own main over gathered),
      )
    where
      same_front : (F G : History) → Some F ≡ Some G → F ≡ G
      same_front F G e = cc

  -- the front is split off a pass that shows the history
  pub front_splits : (id : ℕ) (k : Holder) → Splits Rule id k k (front_holder k)
  front_splits id k s r at =
      let w : Holder = front_holder k in
      let same : set s.views id k ≡ s.views = set_again s.views id k at in
      let dead : (n : ℕ) → Claims w n → ⊥ = (λ n c. true≢false (sym c.0)) in
      subst (λ vs. Rule record { words = s.words; homes = s.homes; views = vs ++ w ∷ [] }) (sym same) record {
        run = r.run;
        is_run = r.is_run;
        knows = λ j u a l. ⊎_elim (λ (t : At s.views j u). r.knows j u t l) (λ (t : (j ≡ length s.views) × (w ≡ u)). absurd (true≢false (sym (ap (λ (x : Holder). x.live) t.1 ∙ l)))) (each_snoc s.views w j u a);
        shows = λ j u a g e. ⊎_elim (λ (t : At s.views j u). r.shows j u t g e) (λ (t : (j ≡ length s.views) × (w ≡ u)). r.shows id k at g (ap (λ (x : Holder). x.front) t.1 ∙ e)) (each_snoc s.views w j u a);
        apart = λ i j n u x au ax cu cx. ⊎_elim
            (λ (tu : At s.views i u). ⊎_elim (λ (tx : At s.views j x). r.apart i j n u x tu tx cu cx) (λ (t : (j ≡ length s.views) × (w ≡ x)). absurd (dead n (subst (λ (y : Holder). Claims y n) (sym t.1) cx))) (each_snoc s.views w j x ax))
            (λ (t : (i ≡ length s.views) × (w ≡ u)). absurd (dead n (subst (λ (y : Holder). Claims y n) (sym t.1) cu))) (each_snoc s.views w i u au);
        turn = turn_views store_of sink_of slots begun s r (s.views ++ w ∷ [])
            (λ j u a. ⊎_elim (λ (t : At s.views j u). inr (u, t, refl)) (λ (t : (j ≡ length s.views) × (w ≡ u)). inl (ap (λ (y : Holder). y.holding) (sym t.1))) (each_snoc s.views w j u a))
            (λ j x f b l going has. (x, at_longer s.views (w ∷ []) j x b, l, going, refl));
      }

  -- what the slot has at the close
  pub final : (ws : List ℕ) (xs : List S) (id : ℕ) (k : Holder) (y : S) (h : History) → Final (Seen Rule id k) ws xs → get_elem? xs 0 ≡ some y → k.live ≡ true → k.view.thread ≡ 0 → k.view.ended ≡ true
      → AllGathered (known_logs k.view) → k.front ≡ Some h → (run : Run) × (h ≡ history_of run.events run.refusals) × Stands Never begun run.events run.refusals (sink_of y)
  final ws xs id k y h f at live main over gathered shown =
      let s = f.0 in
      let r = f.1.0 in
      let c = all_free s r id k f.1.1 live main over gathered in
      let home : get_elem? s.homes 0 ≡ some (some c.value) = ap (λ hs. get_elem? hs 0) c.home in
      let there : get_elem? xs 0 ≡ some c.value = f.4 0 c.value home in
      let same : c.value ≡ y = some-injective c.value y (sym there ∙ at) in
      (r.run, (r.shows id k f.1.1 h shown).0, subst (λ x. Stands Never begun r.run.events r.run.refusals (sink_of x)) same c.is_of.1)

  -- the same, for a count that is named otherwise
  pub shows_as : (n : ℕ) → n ≡ slots → (count id : ℕ) (me : Me S Holder) → me.0.live ≡ true → me.0.view.thread ≡ 0 → me.0.view.ended ≡ true → AllGathered (known_logs me.0.view)
      → Allows Rule count id me 0 (λ n. n) (λ _ m'. ShowsNow n me m')
  shows_as n same count id me live main over gathered = subst (λ m. Allows Rule count id me 0 (λ k. k) (λ _ m'. ShowsNow m me m')) (sym same) (shows count id me live main over gathered)

  -- what is known of the sink at the close, of a pass that shows the history
  pub closes_with : (ws : List ℕ) (xs : List S) (id : ℕ) (k k0 : Holder) (y : S) (h : History) → k ≡ with_front k0 h → Final (Seen Rule id k) ws xs → get_elem? xs 0 ≡ some y → k0.live ≡ true
      → k0.view.thread ≡ 0 → k0.view.ended ≡ true → AllGathered (known_logs k0.view) → SinkClosed Never begun (sink_of y) h
  closes_with ws xs id k k0 y h same f at live main over gathered =
      let r = final ws xs id k y h f at (ap (λ (x : Holder). x.live) same ∙ live) (ap (λ (x : Holder). x.view.thread) same ∙ main) (ap (λ (x : Holder). x.view.ended) same ∙ over)
      (subst (λ (x : Holder). AllGathered (known_logs x.view)) (sym same) gathered) (ap (λ (x : Holder). x.front) same) in
      subst (SinkClosed Never begun (sink_of y)) (sym r.1) (sink_closed Never begun r.0 (sink_of y) r.2)
