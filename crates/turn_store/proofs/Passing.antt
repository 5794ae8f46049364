-- What notes, the start of a run, split passes and joined passes leave of the rule.
use Rattle.std.proofs.Common.{◌≡◌, ◌⊎◌, ℕ, zero, suc, true, false, List, [], ◌∷◌, ◌++◌, length, set, Option, Some, None, refl, sym, ap, ◌∙◌, subst, inl, inr, ⊎_elim, true≢false, slice_index}
use mathlib.Core.Option.{some, none, some-injective, some-ne-none}
use mathlib.Core.Logic.{dite}
use native.Mathlib.Decide.{ℕ_discrete}
use lib.ListN.{get_elem?}
use Rattle.atomic_table.specs.Table.{State, Me, Act, keeps, stepped, Allows, Splits, Joins, Valid, carried_after, opening}
use Rattle.atomic_table.proofs.Lists.{set_else, at_longer}
use Rattle.rb_shared.specs.History.{History}
use Rattle.rb_shared.specs.Store.{Store, globals}
use Rattle.rb_shared.specs.Store as store
use Rattle.rb_shared.specs.View.{View}
use Rattle.shared_run.specs.Run.{Sunk, Knows, Stands}
use Rattle.turn_store.specs.Holding.{Found, Holder, main_holder, spent_holder, with_view, maker, child, child_of, joined}
use Rattle.shared_run.specs.Closing.{ShowsRun}
use Rattle.turn_store.specs.Turns.{Never, At, Claims, Apart, Free, Taken, Kept, Noted}
use Rattle.shared_run.specs.Run.{IsNote}
use Rattle.shared_run.proofs.Starting.{first_run, first_is_run, first_knows}
use Rattle.shared_run.proofs.Sinking.{first_stands}
use Rattle.shared_run.proofs.Knowing.{noted, maker_knows, newborn_knows, joined_knows}
use Rattle.turn_store.proofs.Keeps.{each_set, each_snoc, apart_set, set_there, one_holder, note_claims, note_ended}

module _ {S : Type 0} (store_of : S → Store) (sink_of : S → Sunk) (slots : ℕ) (begun : Sunk) where
  abbrev St : Type 0
  St = State S Holder

  abbrev Homes : Type 0
  Homes = List (mathlib.Core.Option.Option S)

  abbrev Rule : St → Type 0
  Rule = Kept store_of sink_of slots begun

  abbrev whole : List ℕ → Homes → List Holder → St
  whole ws hs vs = record { words = ws; homes = hs; views = vs }

  -- the rule at the start
  pub begins : (y : S) → store_of y ≡ store.opening → sink_of y ≡ begun → begun.failed ≡ false → Rule (opening (0 ∷ []) (y ∷ []) (main_holder slots))
  begins y same sunk fine = record {
    run = first_run;
    is_run = first_is_run slots;
    knows = λ j k at l. subst (λ (x : Holder). Knows slots first_run x.view) (only j k at).1 (first_knows slots);
    shows = λ j k at h e. absurd (let n : None ≡ Some h = ap (λ (x : Holder). x.front) (only j k at).1 ∙ e in cc);
    apart = λ i j n k l a b _ _. (only i k a).0 ∙ sym (only j l b).0;
    turn = inl record {
      word = refl;
      value = y;
      home = refl;
      is_of = (same, subst (Stands Never begun first_run.events first_run.refusals) (sym sunk) (first_stands Never begun fine));
      none_holds = λ j k at. ap (λ (u : Holder). u.holding) (sym (only j k at).1);
    };
  }
    where
      only : (j : ℕ) (k : Holder) → At (main_holder slots ∷ []) j k → (j ≡ 0) × (main_holder slots ≡ k)
      only zero k e = (refl, some-injective (main_holder slots) k e)
      only (suc j) k e = absurd (some-ne-none k (sym e))

  -- ---- other holders, the same turn

  pub turn_views : (s : St) (r : Rule s) (vs : List Holder)
      → ((j : ℕ) (u : Holder) → At vs j u → (u.holding ≡ None) ⊎ ((x : Holder) × At s.views j x × (u.holding ≡ x.holding)))
      → ((j : ℕ) (x : Holder) (f : Found) → At s.views j x → x.live ≡ true → x.view.ended ≡ false → x.holding ≡ Some f → (u : Holder) × At vs j u × (u.live ≡ true) × (u.view.ended ≡ false) × (u.holding ≡ x.holding))
      → Free store_of sink_of begun r.run (whole s.words s.homes vs) ⊎ Taken store_of sink_of begun r.run (whole s.words s.homes vs)
  turn_views s r vs back on = ⊎_elim
      (λ (f : Free store_of sink_of begun r.run s). inl record {
        word = f.word;
        value = f.value;
        home = f.home;
        is_of = f.is_of;
        none_holds = λ j u a. ⊎_elim (λ e. e) (λ (x : (x : Holder) × At s.views j x × (u.holding ≡ x.holding)). x.2 ∙ f.none_holds j x.0 x.1) (back j u a);
      })
      (λ (t : Taken store_of sink_of begun r.run s). let u = on t.holder t.who t.what t.there t.live t.going t.holds in inr record {
        word = t.word;
        home = t.home;
        holder = t.holder;
        who = u.0;
        there = u.1;
        live = u.2;
        going = u.3;
        what = t.what;
        holds = u.4 ∙ t.holds;
        is_of = t.is_of;
        others = λ j u ne a. ⊎_elim (λ e. e) (λ (x : (x : Holder) × At s.views j x × (u.holding ≡ x.holding)). x.2 ∙ t.others j x.0 ne x.1) (back j u a);
      })
      r.turn

  -- ---- notes

  note_rule : (s : St) (r : Rule s) (id : ℕ) (k : Holder) (v : View) → At s.views id k → IsNote k.view v → Rule (whole s.words s.homes (set s.views id (with_view k v)))
  note_rule s r id k v at note =
      let w : Holder = with_view k v in
      let vs : List Holder = set s.views id w in record {
        run = r.run;
        is_run = r.is_run;
        knows = each_set (λ j u. u.live ≡ true → Knows slots r.run u.view) s.views id w (λ l. noted slots r.run k.view v note (r.knows id k at l)) (λ j u _ a. r.knows j u a);
        shows = each_set (λ j u. (h : History) → u.front ≡ Some h → ShowsRun r.run h) s.views id w (r.shows id k at) (λ j u _ a. r.shows j u a);
        apart = apart_set s.views id k w r.apart at (λ n c. inl (note_claims k w n refl note c));
        turn = turn_views s r vs
            (λ j u a. inr (each_set (λ j u. (x : Holder) × At s.views j x × (u.holding ≡ x.holding)) s.views id w (k, at, refl) (λ i x _ b. (x, b, refl)) j u a))
            (λ j x f b live going has. dite (ℕ_discrete j id)
            (λ same.
            let e : k ≡ x = one_holder s.views id k x at (ap (λ i. get_elem? s.views i) (sym same) ∙ b) in
            (w, ap (λ i. get_elem? vs i) same ∙ set_there s.views id k w at, ap (λ (y : Holder). y.live) e ∙ live, note_ended k.view v note ∙ (ap (λ (y : Holder). y.view.ended) e ∙ going), ap (λ (y : Holder). y.holding) e))
            (λ ne. (x, set_else s.views id j w ne ∙ b, live, going, refl)));
      }

  abbrev Notes : St → ℕ → Me S Holder → View → List ℕ → Type 0
  Notes s id me v ws =
      (w : Holder) × (a : Act S) × Valid s.homes me.1 a × Rule (stepped record { words = ws; homes = s.homes; views = s.views } 0 (slice_index ws 0) id me.1 w a) × Noted v me (w, carried_after me.1 a)

  -- a note is made by a load, whoever has the turn
  pub notes : (count id : ℕ) (me : Me S Holder) (v : View) → IsNote me.0.view v → Allows Rule count id me 0 (λ n. n) (λ _. Noted v me)
  notes count id me v note s r size at small = ⊎_elim
      (λ (f : Free store_of sink_of begun r.run s). subst (Notes s id me v) (sym f.word) (with_view me.0 v, keeps, tt, subst (λ ws. Rule (whole ws s.homes (set s.views id (with_view me.0 v)))) f.word made, refl))
      (λ (t : Taken store_of sink_of begun r.run s). subst (Notes s id me v) (sym t.word) (with_view me.0 v, keeps, tt, subst (λ ws. Rule (whole ws s.homes (set s.views id (with_view me.0 v)))) t.word made, refl))
      r.turn
    where
      made : Rule (whole s.words s.homes (set s.views id (with_view me.0 v)))
      made = note_rule s r id me.0 v at note

  -- ---- a pass is split

  pub splits : (id : ℕ) (k : Holder) (n : ℕ) → k.live ≡ true → k.view.unsplit ≡ Some n → Splits Rule id k (maker k) (child k)
  splits id k n live is = subst (λ (o : Option ℕ). Splits Rule id k (maker k) (child_of o k.view)) (sym is) go
    where
      left : Holder
      left = maker k

      right : Holder
      right = child_of (Some n) k.view

      go : Splits Rule id k left right
      go s r at =
          let own = r.knows id k at live in
          let d = own.due n is in
          let vs : List Holder = set s.views id left ++ right ∷ [] in
          let old : (j : ℕ) (u : Holder) → At (set s.views id left) j u → u.live ≡ true → Knows slots r.run u.view =
          each_set (λ j u. u.live ≡ true → Knows slots r.run u.view) s.views id left (λ l. maker_knows slots r.run k.view own) (λ j u _ a. r.knows j u a) in
          let old_shows : (j : ℕ) (u : Holder) → At (set s.views id left) j u → (h : History) → u.front ≡ Some h → ShowsRun r.run h =
          each_set (λ j u. (h : History) → u.front ≡ Some h → ShowsRun r.run h) s.views id left (r.shows id k at) (λ j u _ a. r.shows j u a) in
          let old_apart : Apart (set s.views id left) = apart_set s.views id k left r.apart at (λ m c. inl (c.0, ⊎_elim (λ e. inl e) (λ e. absurd (cc)) c.1)) in
          let mine : Claims k n = (live, inr is) in
          let not_old : (j m : ℕ) (u : Holder) → At (set s.views id left) j u → Claims u m → Claims right m → ⊥ = (λ j m u a c cr.
          let m_is : n ≡ m = ⊎_elim (λ e. e) (λ e. absurd (cc)) cr.1 in
          each_set (λ j u. Claims u m → ⊥) s.views id left
          (λ cl. ⊎_elim (λ (e : k.view.thread ≡ m). d.4 (m_is ∙ sym e)) (λ e. absurd (cc)) cl.1)
          (λ i x ne b cx. ne (r.apart i id n x k b at (cx.0, ⊎_elim (λ (e : x.view.thread ≡ m). inl (e ∙ sym m_is)) (λ (e : x.view.unsplit ≡ Some m). inr (e ∙ ap Some (sym m_is))) cx.1) mine))
          j u a c) in record {
            run = r.run;
            is_run = r.is_run;
            knows = λ j u a l. ⊎_elim (λ b. old j u b l) (λ (t : (j ≡ length (set s.views id left)) × (right ≡ u)). subst (λ (x : Holder). Knows slots r.run x.view) t.1 (newborn_knows slots r.run k.view n own is))
                (each_snoc (set s.views id left) right j u a);
            shows = λ j u a h e. ⊎_elim (λ b. old_shows j u b h e) (λ (t : (j ≡ length (set s.views id left)) × (right ≡ u)). absurd (let q : None ≡ Some h = ap (λ (x : Holder). x.front) t.1 ∙ e in cc))
                (each_snoc (set s.views id left) right j u a);
            apart = λ i j m u x au ax cu cx. ⊎_elim
                (λ (bu : At (set s.views id left) i u). ⊎_elim (λ (bx : At (set s.views id left) j x). old_apart i j m u x bu bx cu cx)
                (λ (t : (j ≡ length (set s.views id left)) × (right ≡ x)). absurd (not_old i m u bu cu (subst (λ (y : Holder). Claims y m) (sym t.1) cx))) (each_snoc (set s.views id left) right j x ax))
                (λ (t : (i ≡ length (set s.views id left)) × (right ≡ u)). ⊎_elim (λ (bx : At (set s.views id left) j x). absurd (not_old j m x bx cx (subst (λ (y : Holder). Claims y m) (sym t.1) cu)))
                (λ (t' : (j ≡ length (set s.views id left)) × (right ≡ x)). t.0 ∙ sym t'.0) (each_snoc (set s.views id left) right j x ax))
                (each_snoc (set s.views id left) right i u au);
            turn = turn_views s r vs
                (λ j u a. ⊎_elim
                (λ (b : At (set s.views id left) j u). inr (each_set (λ j u. (x : Holder) × At s.views j x × (u.holding ≡ x.holding)) s.views id left (k, at, refl) (λ i x _ b. (x, b, refl)) j u b))
                (λ (t : (j ≡ length (set s.views id left)) × (right ≡ u)). inl (ap (λ (y : Holder). y.holding) (sym t.1)))
                (each_snoc (set s.views id left) right j u a))
                (λ j x f b l going has. dite (ℕ_discrete j id)
                (λ same.
                let e : k ≡ x = one_holder s.views id k x at (ap (λ i. get_elem? s.views i) (sym same) ∙ b) in
                (left, (ap (λ i. get_elem? vs i) same ∙ at_longer (set s.views id left) (right ∷ []) id left (set_there s.views id k left at)), ap (λ (y : Holder). y.live) e ∙ l, ap (λ (y : Holder). y.view.ended) e ∙ going, ap (λ (y : Holder). y.holding) e))
                (λ ne. (x, at_longer (set s.views id left) (right ∷ []) j x (set_else s.views id j left ne ∙ b), l, going, refl)));
          }

  -- ---- a pass is joined, which does not have the turn

  pub joins : (id : ℕ) (k : Holder) (other : ℕ) (l : Holder) → k.live ≡ true → l.live ≡ true → l.holding ≡ None → Joins Rule id k other l (joined k l) spent_holder
  joins id k other l live other_live free s r at ne there =
      let both : Holder = joined k l in
      let vs : List Holder = set (set s.views id both) other spent_holder in
      let was : At s.views other l = sym (set_else s.views id other both ne) ∙ there in
      let own : Knows slots r.run both.view = joined_knows slots r.run k.view l.view (r.knows id k at live) (r.knows other l was other_live) in record {
        run = r.run;
        is_run = r.is_run;
        knows = each_set (λ j u. u.live ≡ true → Knows slots r.run u.view) (set s.views id both) other spent_holder (λ e. absurd (true≢false (sym e)))
            (λ j u _ a. each_set (λ j u. u.live ≡ true → Knows slots r.run u.view) s.views id both (λ _. own) (λ i x _ b. r.knows i x b) j u a);
        shows = each_set (λ j u. (h : History) → u.front ≡ Some h → ShowsRun r.run h) (set s.views id both) other spent_holder (λ h e. absurd (let q : None ≡ Some h = e in cc))
            (λ j u _ a. each_set (λ j u. (h : History) → u.front ≡ Some h → ShowsRun r.run h) s.views id both (r.shows id k at) (λ i x _ b. r.shows i x b) j u a);
        apart = apart_set (set s.views id both) other l spent_holder (apart_set s.views id k both r.apart at (λ n c. inl (c.0, c.1))) there (λ n c. absurd (true≢false (sym c.0)));
        turn = turn_views s r vs
            (λ j u a. each_set (λ j u. (u.holding ≡ None) ⊎ ((x : Holder) × At s.views j x × (u.holding ≡ x.holding))) (set s.views id both) other spent_holder (inl refl)
            (λ i x _ b. inr (each_set (λ j u. (x : Holder) × At s.views j x × (u.holding ≡ x.holding)) s.views id both (k, at, refl) (λ i x _ b. (x, b, refl)) i x b)) j u a)
            (λ j x f b lives going has. dite (ℕ_discrete j other)
            (λ same.
            let e : l ≡ x = one_holder s.views other l x was (ap (λ i. get_elem? s.views i) (sym same) ∙ b) in
            let nothing : x.holding ≡ None = ap (λ (y : Holder). y.holding) (sym e) ∙ free in absurd (cc (nothing, has)))
            (λ apart. dite (ℕ_discrete j id)
            (λ same.
            let e : k ≡ x = one_holder s.views id k x at (ap (λ i. get_elem? s.views i) (sym same) ∙ b) in
            (both, set_else (set s.views id both) other j spent_holder apart ∙ (ap (get_elem? (set s.views id both)) same ∙ set_there s.views id k both at), ap (λ (y : Holder). y.live) e ∙ lives, ap (λ (y : Holder). y.view.ended) e ∙ going, ap (λ (y : Holder). y.holding) e))
            (λ not. (x, set_else (set s.views id both) other j spent_holder apart ∙ (set_else s.views id j both not ∙ b), lives, going, refl))));
      }
