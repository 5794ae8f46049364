-- The law where a pass is split and where one is joined.
use Rattle.std.proofs.Common.{◌≡◌, ◌<◌, ◌⊎◌, ℕ, ◌+◌, Bool, true, false, [], ◌∷◌, ◌++◌, length, set, get_or, Option, Some, None, IsSome, refl, sym, ap, ◌∙◌, subst, inl, inr, ⊎_elim, append-nil, arith, true≢false}
use mathlib.Core.Option.{some}
use mathlib.Core.Option.{some-injective}
use mathlib.Core.Logic.{dite}
use native.Mathlib.Decide.{ℕ_discrete}
use lib.ListN.{get_elem?}
use Rattle.atomic_table.specs.Table.{State, Splits, Joins}
use Rattle.atomic_table.proofs.Lists.{at_longer, set_else, set_here}
use Rattle.rb_shared.specs.History.{History}
use Rattle.rb_shared.specs.Lists.{Has, Each}
use Rattle.rb_shared.proofs.Runs.{each_append, has_front, has_behind}
use Rattle.shared_run.specs.Closing.{ShowsRun}
use Rattle.shared_run.specs.Run as runs
use Rattle.shared_run.proofs.Events.{has_either}
use Rattle.shared_run.proofs.Knowing.{maker_knows, newborn_knows, joined_knows}
use Rattle.heap_core.specs.Handing.{Plan, Handed, Slot}
use Rattle.heap_core.specs.Places.{turn_word, tree_lock}
use Rattle.heap_core.specs.Blocks.{Block, home_of, words_of_shapes, IsOfTree}
use Rattle.heap_core.specs.View.{words_in, Holder, Idle, Turned, Knows, AtRest, held, maker, child, child_of, joined, front_holder, spent_holder, busy_at, Locked, HasTree}
use Rattle.heap_core.specs.Moment.{At}
use Rattle.heap_core.specs.Rule.{Claims, Apart, Seated, LiesIn, Kept, owned}
use Rattle.heap_core.proofs.Holders.{at_within, each_two, each_both, none_shown, apart_set, keeps_set, owned_set, owned_snoc}
use Rattle.heap_core.proofs.Owes.{owes_kept, tree_in}
use Rattle.heap_core.proofs.Rooms.{laid_split, laid_join}
use Rattle.heap_core.proofs.Seats.{lies_more}

idle_turned : (h : Handed) (out : Bool) → Idle ≡ Turned h out → ⊥
idle_turned h out e = cc

idle_locked : Idle ≡ Locked → ⊥
idle_locked e = cc

module _ (plan : Plan) where
  -- what was in progress at a place before
  abbrev Was : State Slot Holder → ℕ → ℕ → Holder → Type 0
  Was s x j u = u.live ≡ true → (busy_at x u.doing ≡ Idle) ⊎ ((y : Holder) × At s.views j y × (y.live ≡ true) × (busy_at x y.doing ≡ busy_at x u.doing) × (y.view.thread ≡ u.view.thread))

  -- ---- a seat is split off

  -- What a seat owes that comes: it owns nothing, has nothing in progress, and can name what its maker can.
  record Comes (s : State Slot Holder) (r : Kept plan s) (k w : Holder) : Type 0 where
    pub claims : (m : ℕ) → Claims w m → Claims k m × (Claims (maker k) m → ⊥)
    pub knows : w.live ≡ true → runs.Knows plan.slots r.run w.view
    pub seated : w.live ≡ true → get_elem? r.lines w.line ≡ some (Some w.view.thread)
    pub no_due : w.view.unsplit ≡ None
    pub own : w.own ≡ []
    pub size : w.live ≡ true → w.size ≡ k.size
    pub idle : (x : ℕ) → busy_at x w.doing ≡ Idle
    pub known : (b : Block) → Knows w b → Knows k b
    pub lie : w.live ≡ true → Each (LiesIn w.blocks) w.view.known
    pub late : w.late ≡ []
    pub held : held w ≡ 0
    pub shows : (h : History) → w.front ≡ Some h → ShowsRun r.run h

  no_unsplit : (m : ℕ) → None ≡ Some m → ⊥
  no_unsplit m e = cc

  cut : (s : State Slot Holder) (r : Kept plan s) (id : ℕ) (k w : Holder) → At s.views id k → k.live ≡ true → Comes s r k w → Kept plan record { words = s.words; homes = s.homes; views = set s.views id (maker k) ++ w ∷ [] }
  cut s r id k w at live c =
      let same_blocks : r.blocks ++ [] ≡ r.blocks = append-nil r.blocks in
      let narrow : (m : ℕ) → Claims (maker k) m → Claims k m = λ m q. (live, ⊎_elim (λ e. inl e) (λ e. absurd (no_unsplit m e)) q.1) in
      owes_kept plan s r s.words s.homes (set s.views id (maker k) ++ w ∷ []) record {
        run = r.run;
        added = [];
        lines = r.lines;
        mine = λ _. false;
        is_run = r.is_run;
        knows = each_two (λ j u. u.live ≡ true → runs.Knows plan.slots r.run u.view) s.views id (maker k) w (λ _. maker_knows plan.slots r.run k.view (r.knows id k at live)) c.knows (λ j u _ a. r.knows j u a);
        apart = λ i j m u x au ax cu cx. each_two (λ i u. Claims u m → i ≡ j) s.views id (maker k) w
            (λ q. each_two (λ j x. Claims x m → id ≡ j) s.views id (maker k) w (λ _. refl) (λ p. absurd ((c.claims m p).1 q)) (λ j x _ b p. r.apart id j m k x at b (narrow m q) p) j x ax cx)
            (λ q. each_two (λ j x. Claims x m → length s.views ≡ j) s.views id (maker k) w (λ p. absurd ((c.claims m q).1 p)) (λ _. refl) (λ j x ne b p. absurd (ne (r.apart j id m x k b at p (c.claims m q).0))) j x ax cx)
            (λ i u ne b q. each_two (λ j x. Claims x m → i ≡ j) s.views id (maker k) w (λ p. r.apart i id m u k b at q (narrow m p)) (λ p. absurd (ne (r.apart i id m u k b at q (c.claims m p).0))) (λ j x _ e p. r.apart i j m u x b e q p) j x ax cx)
            i u au cu;
        seated = record {
          long = r.seated.long;
          main = r.seated.main;
          taken = r.seated.taken;
          all = r.seated.all;
          count = r.seated.count;
          once = r.seated.once;
          mine = each_two (λ j u. u.live ≡ true → get_elem? r.lines u.line ≡ some (Some u.view.thread)) s.views id (maker k) w (r.seated.mine id k at) c.seated (λ j u _ a. r.seated.mine j u a);
          due = λ j m u a. each_two (λ j u. u.live ≡ true → u.view.unsplit ≡ Some m → get_elem? r.lines u.due ≡ some (Some m)) s.views id (maker k) w (λ _ e. absurd (no_unsplit m e)) (λ _ e. absurd (no_unsplit m (sym c.no_due ∙ e))) (λ j u _ a. r.seated.due j m u a) j u a;
        };
        laid = subst (Rattle.heap_core.specs.Rule.Laid s.words (set s.views id (maker k) ++ w ∷ [])) (sym same_blocks) (laid_split s.words s.views r.blocks r.laid id k w at live c.own c.size);
        words = λ x b hb _ f. refl;
        things = λ y b hb _ e. inl (refl, λ t. refl);
        sizes = λ y b hb _ e. refl;
        threads = λ t lt. lt;
        stays = λ b hb _. each_two (Was s (home_of b)) s.views id (maker k) w (λ _. inr (k, at, live, refl, refl)) (λ _. inl (c.idle (home_of b))) (λ j u _ a l. inr (u, a, l, refl, refl));
        turn = λ _. record {
          homes = refl;
          lines = refl;
          sinks = λ x st. st;
          over = λ t. refl;
          threads = λ t lt. lt;
          keeps = λ j u a l g h out has. let on = keeps_set s.views id k (maker k) at live refl (λ g. g) j u a l g h out has in
              (on.0, at_longer (set s.views id (maker k)) (w ∷ []) j on.0 on.1, on.2, on.3, on.4);
        };
        anew = λ b hb e. absurd (true≢false (sym e));
        new = λ b h. absurd h;
        one = λ y b d h. absurd h;
        one_thread = λ number c d h. absurd h;
        tree = tree_in plan s r (set s.views id (maker k) ++ w ∷ []) (each_two (λ j u. u.live ≡ true → HasTree u → (b : Block) → Has r.blocks b → IsOfTree b → Knows u b) s.views id (maker k) w
            (r.tree id k at) (λ _ has. absurd (idle_locked (sym (c.idle tree_lock) ∙ has))) (λ j u _ a. r.tree j u a));
        linked = λ shape place h. absurd h;
        once = λ home link to number h. absurd h;
        spare = let more = owned_snoc (set s.views id (maker k)) w in let owns = owned_set s.views id k (maker k) at in let none_held = c.held in omega (arith, more, owns, none_held);
        few = λ home link to number h. absurd h;
        deep = λ shape place h. absurd h;
        one_shape = λ shape place to h. absurd h;
        homes = λ b h. absurd h;
        known = λ j u b a. each_two (λ j u. Knows u b → Has (r.blocks ++ []) b) s.views id (maker k) w (λ kn. subst (λ bs. Has bs b) (sym same_blocks) (r.known id k b at kn)) (λ kn. subst (λ bs. Has bs b) (sym same_blocks) (r.known id k b at (c.known b kn)))
            (λ j u _ a kn. subst (λ bs. Has bs b) (sym same_blocks) (r.known j u b a kn)) j u a;
        lie = each_two (λ j u. u.live ≡ true → Each (LiesIn u.blocks) u.view.known) s.views id (maker k) w (r.lie id k at) c.lie (λ j u _ a. r.lie j u a);
        own = λ x j u o a. each_two (λ j u. Has u.own o → x < length o.words → get_or s.words (o.at + x) 0 ≡ get_or o.words x 0) s.views id (maker k) w (r.own x id k o at) (λ h. absurd (subst (λ os. Has os o) c.own h)) (λ j u _ a. r.own x j u o a) j u a;
        used = let was = r.used in let more = owned_snoc (set s.views id (maker k)) w in let owns = owned_set s.views id k (maker k) at in let blocks = ap words_of_shapes same_blocks in let none_held = c.held in omega (arith, was, more, owns, blocks, none_held);
        begun = let was = r.begun in let more = owned_snoc (set s.views id (maker k)) w in let owns = owned_set s.views id k (maker k) at in let none_held = c.held in omega (arith, was, more, owns, none_held);
        made_on = λ shape h. h;
        ahead_on = λ shape j u a l h. dite (ℕ_discrete j id)
            (λ same. let q : k ≡ u = some-injective k u (sym at ∙ (ap (get_elem? s.views) (sym same) ∙ a)) in
            inr (id, maker k, at_longer (set s.views id (maker k)) (w ∷ []) id (maker k) (set_here s.views id (maker k) (at_within s.views id k at)), live, subst (λ (x : Holder). Has x.shapes shape) (sym q) h))
            (λ ne. inr (j, u, at_longer (set s.views id (maker k)) (w ∷ []) j u (set_else s.views id j (maker k) ne ∙ a), l, h));
        made_new = λ shape place h. absurd h;
        late = each_two (λ j u. u.live ≡ true → Each (runs.MayStill plan.slots r.run u.view.thread) u.late) s.views id (maker k) w (r.late id k at) (λ _. subst (Each (runs.MayStill plan.slots r.run w.view.thread)) (sym c.late) tt) (λ j u _ a. r.late j u a);
        refused = r.refused;
        spent = each_two (λ j u. u.live ≡ false → held u ≡ 0) s.views id (maker k) w (r.spent id k at) (λ _. c.held) (λ j u _ a. r.spent j u a);
        shows = each_two (λ j u. (h : History) → u.front ≡ Some h → ShowsRun r.run h) s.views id (maker k) w (r.shows id k at) c.shows (λ j u _ a. r.shows j u a);
      }

  -- the pass of the thread that was started last
  splits : (id : ℕ) (k : Holder) (n : ℕ) → k.live ≡ true → k.view.unsplit ≡ Some n → Splits (Kept plan) id k (maker k) (child k)
  splits id k n live is = subst (λ (o : Option ℕ). Splits (Kept plan) id k (maker k) (child_of o k)) (sym is) (λ s r at.
      let own = r.knows id k at live in
      let d = own.due n is in
      let lent : (m : ℕ) → Claims (child_of (Some n) k) m → n ≡ m = λ m c. ⊎_elim (λ e. e) (λ e. absurd (no_unsplit m e)) c.1 in
      cut s r id k (child_of (Some n) k) at live record {
        claims = λ m q. ((live, inr (is ∙ ap Some (lent m q))), λ c. ⊎_elim (λ (e : k.view.thread ≡ m). d.4 (lent m q ∙ sym e)) (λ e. no_unsplit m e) c.1);
        knows = λ _. newborn_knows plan.slots r.run k.view n own is;
        seated = λ _. r.seated.due id n k at live is;
        no_due = refl;
        own = refl;
        size = λ _. refl;
        idle = λ x. refl;
        known = λ b h. h;
        lie = λ _. r.lie id k at live;
        late = refl;
        held = refl;
        shows = λ h e. absurd (none_shown h e);
      })

  -- what shows the history still when the heap is gone
  pub front_splits : (id : ℕ) (k : Holder) → k.live ≡ true → Splits (Kept plan) id k (maker k) (front_holder k)
  front_splits id k live s r at = cut s r id k (front_holder k) at live record {
    claims = λ m q. absurd (true≢false (sym q.0));
    knows = λ l. absurd (true≢false (sym l));
    seated = λ l. absurd (true≢false (sym l));
    no_due = refl;
    own = refl;
    size = λ l. absurd (true≢false (sym l));
    idle = λ x. refl;
    known = λ b h. absurd h;
    lie = λ l. absurd (true≢false (sym l));
    late = refl;
    held = refl;
    shows = r.shows id k at;
  }

  -- ---- a pass is joined, which owns nothing and has nothing in progress

  pub joins : (id : ℕ) (k : Holder) (other : ℕ) (u : Holder) → k.live ≡ true → u.live ≡ true → AtRest u → Joins (Kept plan) id k other u (joined k u) spent_holder
  joins id k other u live alive rests s r at ne there =
      let was : At s.views other u = sym (set_else s.views id other (joined k u) ne) ∙ there in
      let same_blocks : r.blocks ++ [] ≡ r.blocks = append-nil r.blocks in
      let mine : At (set (set s.views id (joined k u)) other spent_holder) id (joined k u) = set_else (set s.views id (joined k u)) other id spent_holder (λ e. ne (sym e)) ∙ set_here s.views id (joined k u) (at_within s.views id k at) in
      let knew : runs.Knows plan.slots r.run (joined k u).view = joined_knows plan.slots r.run k.view u.view (r.knows id k at live) (r.knows other u was alive) in
      owes_kept plan s r s.words s.homes (set (set s.views id (joined k u)) other spent_holder) record {
        run = r.run;
        added = [];
        lines = r.lines;
        mine = λ _. false;
        is_run = r.is_run;
        knows = each_both (λ j x. x.live ≡ true → runs.Knows plan.slots r.run x.view) s.views id other (joined k u) spent_holder (λ _. knew) (λ e. absurd (true≢false (sym e))) (λ j x _ _ a. r.knows j x a);
        apart = apart_set (set s.views id (joined k u)) other u spent_holder (apart_set s.views id k (joined k u) r.apart at (λ n c. inl (c.0, c.1))) there (λ n c. absurd (true≢false (sym c.0)));
        seated = record {
          long = r.seated.long;
          main = r.seated.main;
          taken = r.seated.taken;
          all = r.seated.all;
          count = r.seated.count;
          once = r.seated.once;
          mine = each_both (λ j x. x.live ≡ true → get_elem? r.lines x.line ≡ some (Some x.view.thread)) s.views id other (joined k u) spent_holder (r.seated.mine id k at) (λ e. absurd (true≢false (sym e))) (λ j x _ _ a. r.seated.mine j x a);
          due = λ j n x a. each_both (λ j x. x.live ≡ true → x.view.unsplit ≡ Some n → get_elem? r.lines x.due ≡ some (Some n)) s.views id other (joined k u) spent_holder (r.seated.due id n k at) (λ e. absurd (true≢false (sym e))) (λ j x _ _ a. r.seated.due j n x a) j x a;
        };
        laid = subst (Rattle.heap_core.specs.Rule.Laid s.words (set (set s.views id (joined k u)) other spent_holder)) (sym same_blocks) (laid_join s.words s.views r.blocks r.laid id other k u at);
        words = λ x b hb _ f. refl;
        things = λ y b hb _ e. inl (refl, λ t. refl);
        sizes = λ y b hb _ e. refl;
        threads = λ t lt. lt;
        stays = λ b hb _. each_both (Was s (home_of b)) s.views id other (joined k u) spent_holder (λ _. inr (k, at, live, refl, refl)) (λ _. inl refl) (λ j x _ _ a l. inr (x, a, l, refl, refl));
        turn = λ _. record {
          homes = refl;
          lines = refl;
          sinks = λ x st. st;
          over = λ t. refl;
          threads = λ t lt. lt;
          keeps = λ j x a l g h out has. dite (ℕ_discrete j other)
              (λ same. let q : u ≡ x = some-injective u x (sym was ∙ (ap (get_elem? s.views) (sym same) ∙ a)) in
              absurd (idle_turned h out (sym (rests.1 turn_word) ∙ (ap (λ (y : Holder). busy_at turn_word y.doing) q ∙ has))))
              (λ far. let on = keeps_set s.views id k (joined k u) at live refl (λ g. g) j x a l g h out has in
              (on.0, set_else (set s.views id (joined k u)) other j spent_holder far ∙ on.1, on.2, on.3, on.4));
        };
        anew = λ b hb e. absurd (true≢false (sym e));
        new = λ b h. absurd h;
        one = λ y b c h. absurd h;
        tree = tree_in plan s r (set (set s.views id (joined k u)) other spent_holder) (each_both (λ j x. x.live ≡ true → HasTree x → (c : Block) → Has r.blocks c → IsOfTree c → Knows x c) s.views id other (joined k u) spent_holder
            (λ _ has c h t. has_front k.blocks u.blocks c (r.tree id k at live has c h t)) (λ e. absurd (true≢false (sym e))) (λ j x _ _ a. r.tree j x a));
        linked = λ shape place h. absurd h;
        once = λ home link to number h. absurd h;
        spare = let one = owned_set s.views id k (joined k u) at in let two = owned_set (set s.views id (joined k u)) other u spent_holder there in let none_own = ap words_in rests.0 in omega (arith, one, two, none_own);
        few = λ home link to number h. absurd h;
        deep = λ shape place h. absurd h;
        one_thread = λ number c d h. absurd h;
        one_shape = λ shape place to h. absurd h;
        homes = λ b h. absurd h;
        known = λ j x b a. each_both (λ j x. Knows x b → Has (r.blocks ++ []) b) s.views id other (joined k u) spent_holder
            (λ kn. subst (λ bs. Has bs b) (sym same_blocks) (⊎_elim (λ (h : Has k.blocks b). r.known id k b at h) (λ (h : Has u.blocks b). r.known other u b was h) (has_either k.blocks u.blocks b kn)))
            (λ kn. absurd kn) (λ j x _ _ a kn. subst (λ bs. Has bs b) (sym same_blocks) (r.known j x b a kn)) j x a;
        lie = each_both (λ j x. x.live ≡ true → Each (LiesIn x.blocks) x.view.known) s.views id other (joined k u) spent_holder
            (λ _. each_append (LiesIn (k.blocks ++ u.blocks)) k.view.known u.view.known
            (lies_more k.blocks (k.blocks ++ u.blocks) (λ b h. has_front k.blocks u.blocks b h) k.view.known (r.lie id k at live))
            (lies_more u.blocks (k.blocks ++ u.blocks) (λ b h. has_behind k.blocks u.blocks b h) u.view.known (r.lie other u was alive)))
            (λ e. absurd (true≢false (sym e))) (λ j x _ _ a. r.lie j x a);
        own = λ y j x o a. each_both (λ j x. Has x.own o → y < length o.words → get_or s.words (o.at + y) 0 ≡ get_or o.words y 0) s.views id other (joined k u) spent_holder (r.own y id k o at) (λ h. absurd h) (λ j x _ _ a. r.own y j x o a) j x a;
        used = let w = r.used in let one = owned_set s.views id k (joined k u) at in let two = owned_set (set s.views id (joined k u)) other u spent_holder there in let none_own = ap words_in rests.0 in let blocks = ap words_of_shapes same_blocks in omega (arith, w, one, two, none_own, blocks);
        begun = let w = r.begun in let one = owned_set s.views id k (joined k u) at in let two = owned_set (set s.views id (joined k u)) other u spent_holder there in let none_own = ap words_in rests.0 in omega (arith, w, one, two, none_own);
        made_on = λ shape h. h;
        ahead_on = λ shape j x a l h. dite (ℕ_discrete j other)
            (λ same. let q : u ≡ x = some-injective u x (sym was ∙ (ap (get_elem? s.views) (sym same) ∙ a)) in
            inr (id, joined k u, mine, live, has_behind k.shapes u.shapes shape (subst (λ (y : Holder). Has y.shapes shape) (sym q) h)))
            (λ far. dite (ℕ_discrete j id)
            (λ same. let q : k ≡ x = some-injective k x (sym at ∙ (ap (get_elem? s.views) (sym same) ∙ a)) in
            inr (id, joined k u, mine, live, has_front k.shapes u.shapes shape (subst (λ (y : Holder). Has y.shapes shape) (sym q) h)))
            (λ away. inr (j, x, set_else (set s.views id (joined k u)) other j spent_holder far ∙ (set_else s.views id j (joined k u) away ∙ a), l, h)));
        made_new = λ shape place h. absurd h;
        late = each_both (λ j x. x.live ≡ true → Each (runs.MayStill plan.slots r.run x.view.thread) x.late) s.views id other (joined k u) spent_holder (λ _. tt) (λ _. tt) (λ j x _ _ a. r.late j x a);
        refused = r.refused;
        spent = each_both (λ j x. x.live ≡ false → held x ≡ 0) s.views id other (joined k u) spent_holder (λ e. absurd (true≢false (sym live ∙ e))) (λ _. refl) (λ j x _ _ a. r.spent j x a);
        shows = each_both (λ j x. (h : History) → x.front ≡ Some h → ShowsRun r.run h) s.views id other (joined k u) spent_holder (r.shows id k at) (λ h e. absurd (none_shown h e)) (λ j x _ _ a. r.shows j x a);
      }

  -- the same where some thread waits to be split off
  pub splits_started : (id : ℕ) (k : Holder) → k.live ≡ true → IsSome k.view.unsplit → Splits (Kept plan) id k (maker k) (child k)
  splits_started id k live started = by_option k.view.unsplit refl started
    where
      by_option : (o : Option ℕ) → k.view.unsplit ≡ o → IsSome o → Splits (Kept plan) id k (maker k) (child k)
      by_option None is h = absurd (true≢false (sym h))
      by_option (Some n) is h = splits id k n live is
