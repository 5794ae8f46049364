-- Steps on the used word and on own words keep the law.
use Rattle.std.proofs.Common.{map, cond, nat_le, nat_lt, ◌&&◌, leb-true, ltb-true, le-leb, lt-ltb, ◌≡◌, ◌≢◌, ◌≤◌, ◌<◌, ◌⊎◌, ◌-◌, ℕ, ◌+◌, Bool, true, false, List, [], ◌∷◌, ◌++◌, length, take, drop, set, get_or, Option, Some, None, IsSome, refl, sym, ap, ◌∙◌, subst, inl, inr, ⊎_elim, append-nil, arith, eqb, eq-eqb, ne_eqb, length-set, le_refl, lt_of_not-le, get_or-set_other, true≢false}
use Rattle.std.proofs.lemmas.List.{length-drop, length-take-le, get_or-drop, get_or-take, get_or-set_same, set-get_or}
use mathlib.Core.Option.{some-injective, some, none}
use mathlib.Core.Logic.{dite}
use native.Mathlib.Decide.{ℕ_discrete, dec_le}
use prog.Atomic.{either}
use lib.ListN.{get_elem?}
use Rattle.atomic_table.specs.Table.{State, Me, Allows, keeps, step}
use Rattle.atomic_table.proofs.Lists.{set_again, set_here, set_else}
use Rattle.rb_model.specs.Log.{Entry, Refusal, Log, has_end}
use Rattle.rb_shared.specs.Lists.{Has, Each}
use Rattle.rb_shared.specs.History.{History, by}
use Rattle.rb_shared.specs.View.{View}
use Rattle.rb_shared.proofs.Runs.{each_append, each_more}
use Rattle.shared_run.specs.Run.{MayStill, Run, Sunk, IsRun, IsOver, run_refused, refused_at, refused_more}
use Rattle.shared_run.specs.Run as runs
use Rattle.shared_run.specs.Closing.{ShowsRun}
use Rattle.shared_run.proofs.Closing.{open_hides}
use Rattle.shared_run.proofs.Events.{refused_count, refused_own, refused_other}
use Rattle.rb_shared.specs.Step.{Steps}
use Rattle.shared_run.proofs.Points.{point_events}
use Rattle.shared_run.proofs.Knowing.{knows_on, refusal_grows, refused_knows}
use Rattle.shared_run.proofs.Sinking.{refused_run, stands_full}
use Rattle.heap_core.specs.Places.{opening_words, used_word, turn_word, tree_lock}
use Rattle.heap_core.specs.Handing.{Plan, Slot}
use Rattle.heap_core.specs.Blocks.{Block, home_of, IsOfTree, Inside, words_of_shapes}
use Rattle.heap_core.specs.View.{busy_at, Region, InRegion, words_in, stored, holds_word, with_region, with_stored, Holder, InOwn, Knows, HasTree, held, with_full, with_view}
use Rattle.heap_core.specs.Moment.{At}
use Rattle.heap_core.specs.Turns.{Any}
use Rattle.heap_core.specs.Rule.{Below, LiesIn, Kept}
use Rattle.heap_core.specs.Room.{Asking, refusing, AreUsed, Looks, Takes, OwnLoads, OwnStores}
use Rattle.heap_core.proofs.Holders.{at_within, each_set, apart_set, keeps_set, owned_set}
use Rattle.heap_core.proofs.Owes.{whole, owes_kept, tree_in}
use Rattle.heap_core.proofs.Rooms.{laid_step}

abbrev pair_in : Option (ℕ × ℕ) → ℕ × ℕ
pair_in None = (0, 0)
pair_in (Some p) = p

below_up : (used used' size size' : ℕ) → used ≤ used' → size' ≡ size → (r : Refusal) → Below used size r → Below used' size' r
below_up used used' size size' up same r b n wanted is = let q = b n wanted is in let low = q.0 in let over = q.1 in (omega (arith, low, up), omega (arith, over, same))

over_of : (n wanted size : ℕ) → ((n + wanted ≤ size) → ⊥) → size < n + wanted
over_of n wanted size none_left = lt_of_not-le none_left

-- what was loaded for a read may still be entered, whatever is refused
pub late_refused : (slots : ℕ) (run : Run) (refusals : List (List Refusal)) (t : ℕ) (es : List Entry) → Each (MayStill slots run t) es → Each (MayStill slots (record { events = run.events; refusals = refusals; store = run.store }) t) es
late_refused slots run refusals t es l = each_more (MayStill slots run t) (MayStill slots (record { events = run.events; refusals = refusals; store = run.store }) t)
    (λ f p. (p.0, p.1, point_events slots run (record { events = run.events; refusals = refusals; store = run.store }) t (λ y. Steps slots y t f y) refl p.2)) es l

-- ---- a word is stored in a region

-- a region after it, and the one that it was
pub stored_back : (i x : ℕ) (os : List Region) (p : Region) → Has (map (stored i x) os) p → (o : Region) × Has os o × (p.at ≡ o.at) × (length p.words ≡ length o.words) × (p ≡ stored i x o)
stored_back i x [] p h = absurd h
stored_back i x (o ∷ os) p (inl e) = (o, inl refl, ap (λ (q : Region). q.at) e ∙ place_is (holds_word i o), ap (λ (q : Region). length q.words) e ∙ size_is (holds_word i o), e)
  where
    place_is : (b : Bool) → (cond b (record { at = o.at; words = set o.words (i - o.at) x }) o).at ≡ o.at
    place_is true = refl
    place_is false = refl

    size_is : (b : Bool) → length (cond b (record { at = o.at; words = set o.words (i - o.at) x }) o).words ≡ length o.words
    size_is true = length-set o.words (i - o.at) x
    size_is false = refl
stored_back i x (o ∷ os) p (inr h) = let b = stored_back i x os p h in (b.0, inr b.1, b.2, b.3, b.4)

stored_size : (i x : ℕ) (o : Region) → length (stored i x o).words ≡ length o.words
stored_size i x o = by_test (holds_word i o)
  where
    by_test : (b : Bool) → length (cond b (record { at = o.at; words = set o.words (i - o.at) x }) o).words ≡ length o.words
    by_test true = length-set o.words (i - o.at) x
    by_test false = refl

stored_count : (i x : ℕ) (os : List Region) → words_in (map (stored i x) os) ≡ words_in os
stored_count i x [] = refl
stored_count i x (o ∷ os) = let one = stored_size i x o in let more = stored_count i x os in omega (arith, one, more)

pub holds_of : (i : ℕ) (o : Region) → holds_word i o ≡ true → InRegion i o
holds_of i o e = by_test (nat_le o.at i) refl
  where
    by_test : (b : Bool) → nat_le o.at i ≡ b → InRegion i o
    by_test true is = (leb-true o.at i is, ltb-true i (o.at + length o.words) (sym (ap (λ b. b && nat_lt i (o.at + length o.words)) is) ∙ e))
    by_test false is = absurd (true≢false (sym e ∙ ap (λ b. b && nat_lt i (o.at + length o.words)) is))

not_holds : (i : ℕ) (o : Region) → holds_word i o ≡ false → InRegion i o → ⊥
not_holds i o e r = true≢false (sym (ap (λ b. b && nat_lt i (o.at + length o.words)) (le-leb o.at i r.0) ∙ lt-ltb i (o.at + length o.words) r.1) ∙ e)

-- the words of a region are what it says, after the store
stored_word : (ws : List ℕ) (i x y : ℕ) (o : Region) → i < length ws → (y < length o.words → get_or ws (o.at + y) 0 ≡ get_or o.words y 0) → y < length (stored i x o).words → get_or (set ws i x) ((stored i x o).at + y) 0 ≡ get_or (stored i x o).words y 0
stored_word ws i x y o room was lt = by_test (holds_word i o) refl (subst (λ n. y < n) (stored_size i x o) lt)
  where
    by_test : (b : Bool) → holds_word i o ≡ b → y < length o.words → get_or (set ws i x) ((cond b (record { at = o.at; words = set o.words (i - o.at) x }) o).at + y) 0 ≡ get_or (cond b (record { at = o.at; words = set o.words (i - o.at) x }) o).words y 0
    by_test true is lt =
        let r = holds_of i o is in
        let lo = r.0 in
        let hi = r.1 in
        dite (ℕ_discrete y (i - o.at))
        (λ same. ap (λ q. get_or (set ws i x) q 0) (let z : o.at + y ≡ i = omega (arith, same, lo) in z) ∙ (get_or-set_same ws i x 0 room ∙ sym (ap (λ q. get_or (set o.words (i - o.at) x) q 0) same ∙ get_or-set_same o.words (i - o.at) x 0 (omega (arith, lo, hi)))))
        (λ ne. get_or-set_other ws i (o.at + y) x 0 (λ z. ne (omega (arith, z))) ∙ (was lt ∙ sym (get_or-set_other o.words (i - o.at) y x 0 ne)))
    by_test false is lt = get_or-set_other ws i (o.at + y) x 0 (λ z. not_holds i o is (omega (arith, z), omega (arith, z, lt))) ∙ was lt

module _ (plan : Plan) (s : State Slot Holder) (r : Kept plan s) (id : ℕ) (k k' : Holder) (ws' : List ℕ) (at : At s.views id k) (live : k.live ≡ true) where
  -- What a step owes that leaves the words of blocks and of other passes: the run is as it was, but for a refusal.
  pub record Room : Type 0 where
    pub alive : k'.live ≡ true
    pub line : k'.line ≡ k.line
    pub due : k'.due ≡ k.due
    pub size : k'.size ≡ k.size
    pub blocks : k'.blocks ≡ k.blocks
    pub ahead : k'.ahead ≡ k.ahead
    pub doing : k'.doing ≡ k.doing
    pub late : k'.late ≡ k.late
    pub shapes : k'.shapes ≡ k.shapes
    pub front : k'.front ≡ k.front
    pub known : k'.view.known ≡ k.view.known
    pub thread : k'.view.thread ≡ k.view.thread
    pub ended : k'.view.ended ≡ k.view.ended
    pub unsplit : (n : ℕ) → k'.view.unsplit ≡ Some n → k.view.unsplit ≡ Some n
    pub refusals : List (List Refusal)
    pub count : length refusals ≡ length r.run.refusals
    pub sinks : (x : Sunk) → runs.Stands Any plan.begun r.run.events r.run.refusals x → runs.Stands Any plan.begun r.run.events refusals x
    pub shows : (h : History) → ShowsRun r.run h → ShowsRun (record { events = r.run.events; refusals = refusals; store = r.run.store }) h
    pub is_run : IsRun plan.slots (record { events = r.run.events; refusals = refusals; store = r.run.store })
    pub knows : (j : ℕ) (u : Holder) → At (set s.views id k') j u → u.live ≡ true → runs.Knows plan.slots (record { events = r.run.events; refusals = refusals; store = r.run.store }) u.view
    pub refused : (t : ℕ) → Each (Below (get_or ws' used_word 0) (length ws')) (refused_at refusals t)
    pub long : length ws' ≡ length s.words
    pub up : get_or s.words used_word 0 ≤ get_or ws' used_word 0
    pub top : get_or ws' used_word 0 ≤ length s.words
    pub mine : (x : ℕ) → InOwn x k' → InOwn x k ⊎ (get_or s.words used_word 0 ≤ x)
    pub own_in : (o : Region) → Has k'.own o → (opening_words ≤ o.at) × (o.at + length o.words ≤ get_or ws' used_word 0)
    pub single : (x : ℕ) (o p : Region) → Has k'.own o → Has k'.own p → InRegion x o → InRegion x p → o ≡ p
    pub blocks_same : (x : ℕ) (b : Block) → Has r.blocks b → Inside x b → get_or ws' x 0 ≡ get_or s.words x 0
    pub others_same : (x j : ℕ) (u : Holder) → j ≢ id → At s.views j u → InOwn x u → get_or ws' x 0 ≡ get_or s.words x 0
    pub owns : (x : ℕ) (o : Region) → Has k'.own o → x < length o.words → get_or ws' (o.at + x) 0 ≡ get_or o.words x 0
    pub counted : get_or ws' used_word 0 + words_in k.own ≡ get_or s.words used_word 0 + words_in k'.own

  pub room_step : Room → Kept plan (whole ws' s.homes (set s.views id k'))
  room_step o =
      let long = o.long in
      let top = o.top in
      let same_blocks : r.blocks ++ [] ≡ r.blocks = append-nil r.blocks in
      owes_kept plan s r ws' s.homes (set s.views id k') record {
        run = record { events = r.run.events; refusals = o.refusals; store = r.run.store };
        added = [];
        lines = r.lines;
        mine = λ _. false;
        is_run = o.is_run;
        knows = o.knows;
        apart = apart_set s.views id k k' r.apart at (λ n c. inl (live, ⊎_elim (λ (is : k'.view.thread ≡ n). inl (sym o.thread ∙ is)) (λ (is : k'.view.unsplit ≡ Some n). inr (o.unsplit n is)) c.1));
        seated = record {
          long = r.seated.long;
          main = r.seated.main;
          taken = r.seated.taken;
          all = r.seated.all;
          count = r.seated.count;
          once = r.seated.once;
          mine = each_set (λ j u. u.live ≡ true → get_elem? r.lines u.line ≡ some (Some u.view.thread)) s.views id k'
              (λ _. ap (get_elem? r.lines) o.line ∙ (r.seated.mine id k at live ∙ ap (λ t. some (Some t)) (sym o.thread))) (λ j u _ a. r.seated.mine j u a);
          due = λ j n u a. each_set (λ j u. u.live ≡ true → u.view.unsplit ≡ Some n → get_elem? r.lines u.due ≡ some (Some n)) s.views id k'
              (λ _ is. ap (get_elem? r.lines) o.due ∙ r.seated.due id n k at live (o.unsplit n is)) (λ j u _ a. r.seated.due j n u a) j u a;
        };
        laid = laid_step s.words ws' s.views r.blocks [] r.laid id k k' at (λ _. live) o.size long o.up (omega (arith, top, long)) o.mine o.own_in o.single (λ x b h. absurd h) (λ x b c h. absurd h) (λ b h. absurd h);
        words = λ x b hb _ f. o.blocks_same x f.0 f.1 f.3;
        things = λ y b hb _ is. inl (refl, λ t. refl);
        sizes = λ y b hb _ is. refl;
        threads = λ n lt. let c = o.count in omega (arith, lt, c);
        stays = λ b hb _. each_set (λ j u. u.live ≡ true → (Rattle.heap_core.specs.View.busy_at (home_of b) u.doing ≡ Rattle.heap_core.specs.View.Idle) ⊎ ((y : Holder) × At s.views j y × (y.live ≡ true) × (Rattle.heap_core.specs.View.busy_at (home_of b) y.doing ≡ Rattle.heap_core.specs.View.busy_at (home_of b) u.doing) × (y.view.thread ≡ u.view.thread))) s.views id k'
            (λ _. inr (k, at, live, ap (Rattle.heap_core.specs.View.busy_at (home_of b)) (sym o.doing), sym o.thread)) (λ j u _ a l. inr (u, a, l, refl, refl));
        turn = λ _. record {
          homes = refl;
          lines = refl;
          sinks = o.sinks;
          over = λ t. refl;
          threads = λ n lt. let c = o.count in omega (arith, lt, c);
          keeps = keeps_set s.views id k k' at o.alive (ap (busy_at turn_word) o.doing) (λ g. o.ended ∙ g);
        };
        anew = λ b hb mine. absurd (true≢false (sym mine));
        new = λ b h. absurd h;
        one = λ y b c h. absurd h;
        tree = tree_in plan s r (set s.views id k') (each_set (λ j u. u.live ≡ true → HasTree u → (c : Block) → Has r.blocks c → IsOfTree c → Knows u c) s.views id k' (λ _. λ has c h t. subst (λ bs. Has bs c) (sym o.blocks) (r.tree id k at live (ap (busy_at tree_lock) (sym o.doing) ∙ has) c h t)) (λ j u _ a. r.tree j u a));
        linked = λ shape place h. absurd h;
        once = λ home link to number h. absurd h;
        spare = let owns = owned_set s.views id k k' at in let counted = o.counted in let ahead = o.ahead in omega (arith, owns, counted, ahead);
        few = λ home link to number h. absurd h;
        deep = λ shape place h. absurd h;
        one_thread = λ number c d h. absurd h;
        one_shape = λ shape place to h. absurd h;
        homes = λ b h. absurd h;
        known = λ j u b a. each_set (λ j u. Knows u b → Has (r.blocks ++ []) b) s.views id k' (λ kn. subst (λ bs. Has bs b) (sym same_blocks) (r.known id k b at (subst (λ bs. Has bs b) o.blocks kn)))
            (λ j u _ a kn. subst (λ bs. Has bs b) (sym same_blocks) (r.known j u b a kn)) j u a;
        lie = each_set (λ j u. u.live ≡ true → Each (LiesIn u.blocks) u.view.known) s.views id k'
            (λ _. subst (λ bs. Each (LiesIn bs) k'.view.known) (sym o.blocks) (subst (Each (LiesIn k.blocks)) (sym o.known) (r.lie id k at live))) (λ j u _ a. r.lie j u a);
        own = λ x j u p a. each_set (λ j u. Has u.own p → x < length p.words → get_or ws' (p.at + x) 0 ≡ get_or p.words x 0) s.views id k' (o.owns x p)
            (λ j u ne a h lt. o.others_same (p.at + x) j u ne a (p, h, (omega arith, omega (arith, lt))) ∙ r.own x j u p a h lt) j u a;
        used = let was = r.used in let owns = owned_set s.views id k k' at in let blocks = ap words_of_shapes same_blocks in let counted = o.counted in let ahead = o.ahead in omega (arith, was, owns, blocks, counted, ahead);
        begun = let was = r.begun in let owns = owned_set s.views id k k' at in let counted = o.counted in let ahead = o.ahead in let count = o.count in omega (arith, was, owns, counted, ahead, count);
        made_on = λ shape h. h;
        ahead_on = λ shape j u a l h. dite (ℕ_discrete j id)
            (λ is. let same : k ≡ u = some-injective k u (sym at ∙ (ap (get_elem? s.views) (sym is) ∙ a)) in
            inr (id, k', set_here s.views id k' (at_within s.views id k at), o.alive, subst (λ es. Has es shape) (sym o.shapes) (subst (λ (x : Holder). Has x.shapes shape) (sym same) h)))
            (λ ne. inr (j, u, set_else s.views id j k' ne ∙ a, l, h));
        made_new = λ shape place h. absurd h;
        late = each_set (λ j u. u.live ≡ true → Each (MayStill plan.slots (record { events = r.run.events; refusals = o.refusals; store = r.run.store }) u.view.thread) u.late) s.views id k'
            (λ _. subst (λ es. Each (MayStill plan.slots (record { events = r.run.events; refusals = o.refusals; store = r.run.store }) k'.view.thread) es) (sym o.late) (subst (λ t. Each (MayStill plan.slots (record { events = r.run.events; refusals = o.refusals; store = r.run.store }) t) k.late) (sym o.thread) (late_refused plan.slots r.run o.refusals k.view.thread k.late (r.late id k at live))))
            (λ j u _ a l. late_refused plan.slots r.run o.refusals u.view.thread u.late (r.late j u a l));
        refused = o.refused;
        spent = each_set (λ j u. u.live ≡ false → held u ≡ 0) s.views id k' (λ e. absurd (true≢false (sym o.alive ∙ e))) (λ j u _ a. r.spent j u a);
        shows = each_set (λ j u. (h : History) → u.front ≡ Some h → ShowsRun (record { events = r.run.events; refusals = o.refusals; store = r.run.store }) h) s.views id k'
            (λ h e. o.shows h (r.shows id k at h (sym o.front ∙ e))) (λ j u _ a h e. o.shows h (r.shows j u a h e));
      }

-- nothing changes
same_kept : (plan : Plan) (s : State Slot Holder) (id i : ℕ) (k : Holder) → At s.views id k → Kept plan s → Kept plan (whole (set s.words i (get_or s.words i 0)) s.homes (set s.views id k))
same_kept plan s id i k at r = subst (λ ws. Kept plan (whole ws s.homes (set s.views id k))) (sym (set-get_or s.words i 0)) (subst (λ vs. Kept plan (whole s.words s.homes vs)) (sym (set_again s.views id k at)) r)

-- what the used word may be found to be
are_used : (plan : Plan) (s : State Slot Holder) (r : Kept plan s) (id : ℕ) (k : Holder) → At s.views id k → k.live ≡ true → AreUsed k (get_or s.words used_word 0)
are_used plan s r id k at live =
    let fit = r.laid.size id k at live in
    let top = r.laid.used_in in
    (r.laid.opening_in, (λ o h. (r.laid.own_in id k o at h).1), omega (arith, top, fit))

-- ---- the used word was loaded

refuses : (plan : Plan) (s : State Slot Holder) (r : Kept plan s) (id wanted : ℕ) (a : Asking) (k : Holder) → At s.views id k → k.live ≡ true → k.view.ended ≡ false → k.size < get_or s.words used_word 0 + wanted
    → Kept plan (whole s.words s.homes (set s.views id (with_full k a.call a.moved (get_or s.words used_word 0) wanted)))
refuses plan s r id wanted a k at live going over =
    let n : ℕ = get_or s.words used_word 0 in
    let v : View = k.view in
    let q : Refusal = record { call = a.call; moved = a.moved; before = length v.log.entries; words = Some (n, wanted) } in
    let knew = r.knows id k at live in
    let grows = refusal_grows r.run v.thread q in
    let open_log : has_end (by v.thread r.run.events) ≡ false = ap (λ (l : Log). has_end l.entries) (sym knew.log) ∙ subst (λ b. IsOver b v.log) going knew.over in
    let fit = r.laid.size id k at live in
    let k' : Holder = with_full k a.call a.moved n wanted in
    room_step plan s r id k k' s.words at live record {
      alive = live;
      line = refl;
      due = refl;
      size = refl;
      blocks = refl;
      ahead = refl;
      doing = refl;
      late = refl;
      shapes = refl;
      front = refl;
      known = refl;
      thread = refl;
      ended = refl;
      unsplit = λ y is. absurd (let h : None ≡ Some y = is in cc);
      refusals = refused_more r.run.refusals v.thread q;
      count = refused_count r.run.refusals v.thread q;
      shows = λ h x. absurd (open_hides plan.slots r.run v knew going h x);
      sinks = λ x st. stands_full Any plan.begun r.run.events r.run.refusals v.thread q n wanted x st refl tt;
      is_run = refused_run plan.slots r.run v.thread q r.is_run;
      knows = each_set (λ j u. u.live ≡ true → runs.Knows plan.slots (run_refused r.run v.thread q) u.view) s.views id k' (λ _. refused_knows plan.slots r.run v a.call a.moved (Some (n, wanted)) q knew going refl)
          (λ j u ne b l. knows_on plan.slots r.run (run_refused r.run v.thread q) v.thread u.view grows open_log (r.knows j u b l)
          (λ is. ne (r.apart j id v.thread u k b at (l, inl is) (live, inl refl)))
          (λ is. ne (r.apart j id v.thread u k b at (l, inr is) (live, inl refl))));
      refused = λ t. dite (ℕ_discrete t v.thread)
          (λ is. subst (λ x. Each (Below n (length s.words)) (refused_at (refused_more r.run.refusals v.thread q) x)) (sym is)
          (subst (Each (Below n (length s.words))) (sym (refused_own r.run.refusals v.thread q knew.within))
          (each_append (Below n (length s.words)) (refused_at r.run.refusals v.thread) (q ∷ []) (r.refused v.thread) (new_below n wanted q refl (omega (arith, over, fit)), tt))))
          (λ ne. subst (Each (Below n (length s.words))) (sym (refused_other r.run.refusals v.thread t q ne)) (r.refused t));
      long = refl;
      up = le_refl n;
      top = r.laid.used_in;
      mine = λ x o. inl o;
      own_in = λ o h. r.laid.own_in id k o at h;
      single = λ x o p h g. r.laid.single x id k o p at h g;
      blocks_same = λ x b h i. refl;
      others_same = λ x j u ne b o. refl;
      owns = λ x o h lt. r.own x id k o at h lt;
      counted = refl;
    }
  where
    new_below : (n wanted : ℕ) (q : Refusal) → q.words ≡ Some (n, wanted) → length s.words < n + wanted → Below n (length s.words) q
    new_below n wanted q is over m want e =
        let h : ◌≡◌ {A = Option (ℕ × ℕ)} (Some (n, wanted)) (Some (m, want)) = sym is ∙ e in
        let first : n ≡ m = ap (λ o. (pair_in o).0) h in
        let second : wanted ≡ want = ap (λ o. (pair_in o).1) h in (omega (arith, first), omega (arith, first, second, over))

pub looks : (plan : Plan) (count id wanted : ℕ) (a : Option Asking) (me : Me Slot Holder) → me.0.live ≡ true → (IsSome a → me.0.view.ended ≡ false) → Allows (Kept plan) count id me used_word (λ n. n) (Looks a wanted me)
looks plan count id wanted a me live going s r size at small =
    let n : ℕ = get_or s.words used_word 0 in
    let k : Holder = me.0 in
    dite (dec_le (n + wanted) k.size)
    (λ room. (k, keeps, tt, same_kept plan s id used_word k at r, (are_used plan s r id k at live, (λ _. refl), λ over. absurd (omega (arith, room, over)))))
    (λ none_left. (
      refusing k a n wanted,
      keeps,
      tt,
      subst (λ ws. Kept plan (whole ws s.homes (set s.views id (refusing k a n wanted)))) (sym (set-get_or s.words used_word 0)) (by_asking a going (over_of n wanted k.size none_left)),
      (are_used plan s r id k at live, (λ room. absurd (none_left room)), λ _. refl),
    ))
  where
    by_asking : (a : Option Asking) → (IsSome a → me.0.view.ended ≡ false) → me.0.size < get_or s.words used_word 0 + wanted
        → Kept plan (whole s.words s.homes (set s.views id (refusing me.0 a (get_or s.words used_word 0) wanted)))
    by_asking None going over = subst (λ vs. Kept plan (whole s.words s.homes vs)) (sym (set_again s.views id me.0 at)) r
    by_asking (Some a) going over = refuses plan s r id wanted a me.0 at live (going refl) over

-- a region that is taken now is behind all others
two_regions : {plan : Plan} (s : State Slot Holder) (r : Kept plan s) (id : ℕ) (k : Holder) → At s.views id k → (old : ℕ) (ws : List ℕ) → get_or s.words used_word 0 ≡ old
    → (x : ℕ) (o p : Region) → Has (record { at = old; words = ws } ∷ k.own) o → Has (record { at = old; words = ws } ∷ k.own) p → InRegion x o → InRegion x p → o ≡ p
two_regions s r id k at old ws is x o p (inl a) (inl b) io ip = a ∙ sym b
two_regions s r id k at old ws is x o p (inl a) (inr b) io ip = let lo = subst (λ (q : Region). q.at ≤ x) a io.0 in let end = (r.laid.own_in id k p at b).1 in let hi = ip.1 in absurd (omega (arith, lo, end, hi, is))
two_regions s r id k at old ws is x o p (inr a) (inl b) io ip = let lo = subst (λ (q : Region). q.at ≤ x) b ip.0 in let end = (r.laid.own_in id k o at a).1 in let hi = io.1 in absurd (omega (arith, lo, end, hi, is))
two_regions s r id k at old ws is x o p (inr a) (inr b) io ip = r.laid.single x id k o p at a b io ip

-- ---- the used word is exchanged

pub takes : (plan : Plan) (count id old new : ℕ) (me : Me Slot Holder) → me.0.live ≡ true → opening_words ≤ old → old ≤ new → new ≤ me.0.size → Allows (Kept plan) count id me used_word (λ n. either (eqb n old) new n) (Takes (step count used_word old new none) me)
takes plan count id old new me live low up room s r size at small =
    let n : ℕ = get_or s.words used_word 0 in
    let k : Holder = me.0 in
    let fit : k.size ≡ length s.words = r.laid.size id k at live in
    let top = r.laid.used_in in
    let some_words = r.laid.opening_in in
    dite (ℕ_discrete n old)
    (λ is.
    let ws : List ℕ = take (new - old) (drop old s.words) in
    let k' : Holder = with_region k old ws in
    let fresh : Region = record { at = old; words = ws } in
    let left : length (drop old s.words) ≡ length s.words - old = length-drop old s.words in
    let long : length ws ≡ new - old = length-take-le (new - old) (drop old s.words) (omega (arith, left, fit, room)) in
    let used' : get_or (set s.words used_word new) used_word 0 ≡ new = get_or-set_same s.words used_word new 0 (omega (arith, some_words, top)) in
    let same_length = length-set s.words used_word new in (
      k',
      keeps,
      tt,
      subst (λ (b : Bool). Kept plan (whole (set s.words used_word (either b new n)) s.homes (set s.views id k'))) (sym (eq-eqb n old is))
          (room_step plan s r id k k' (set s.words used_word new) at live record {
            alive = live;
            line = refl;
            due = refl;
            size = refl;
            blocks = refl;
            ahead = refl;
            doing = refl;
            late = refl;
            shapes = refl;
            front = refl;
            known = refl;
            thread = refl;
            ended = refl;
            unsplit = λ y e. e;
            refusals = r.run.refusals;
            count = refl;
            shows = λ h x. x;
            sinks = λ x st. st;
            is_run = r.is_run;
            knows = each_set (λ j u. u.live ≡ true → runs.Knows plan.slots r.run u.view) s.views id k' (r.knows id k at) (λ j u _ a. r.knows j u a);
            refused = λ t. each_more (Below n (length s.words)) (Below (get_or (set s.words used_word new) used_word 0) (length (set s.words used_word new)))
                (below_up n (get_or (set s.words used_word new) used_word 0) (length s.words) (length (set s.words used_word new)) (omega (arith, used', is, up)) same_length) (refused_at r.run.refusals t) (r.refused t);
            long = same_length;
            up = omega (arith, used', is, up);
            top = omega (arith, used', fit, room);
            mine = λ x o. ⊎_elim
                (λ (new_one : o.0 ≡ fresh). let lo = subst (λ (p : Region). p.at ≤ x) new_one o.2.0 in inr (omega (arith, lo, is)))
                (λ (h : Has k.own o.0). inl (o.0, h, o.2))
                o.1;
            own_in = λ o h. ⊎_elim
                (λ (new_one : o ≡ fresh). subst (λ (p : Region). (opening_words ≤ p.at) × (p.at + length p.words ≤ get_or (set s.words used_word new) used_word 0)) (sym new_one) (low, omega (arith, long, used', up)))
                (λ (was : Has k.own o). let x = r.laid.own_in id k o at was in let end = x.1 in (x.0, omega (arith, end, used', is, up)))
                h;
            single = λ x o p h g ih ig. two_regions s r id k at old ws is x o p h g ih ig;
            blocks_same = λ x b h i. get_or-set_other s.words used_word x new 0 (λ z. (r.laid.blocks_in b h).1 (subst (λ y. Inside y b) z i));
            others_same = λ x j u ne b o. get_or-set_other s.words used_word x new 0 (λ z. let far = (r.laid.own_in j u o.0 b o.1).0 in let le = o.2.0 in omega (arith, far, le, z));
            owns = λ x o h lt. ⊎_elim
                (λ (new_one : o ≡ fresh). subst (λ (p : Region). x < length p.words → get_or (set s.words used_word new) (p.at + x) 0 ≡ get_or p.words x 0) (sym new_one)
                (λ lt. get_or-set_other s.words used_word (old + x) new 0 (λ z. omega (arith, z, low)) ∙ sym (get_or-take (new - old) (drop old s.words) x 0 (omega (arith, lt, long)) ∙ get_or-drop old s.words x 0)) lt)
                (λ (was : Has k.own o). get_or-set_other s.words used_word (o.at + x) new 0 (λ z. let far = (r.laid.own_in id k o at was).0 in omega (arith, z, far)) ∙ r.own x id k o at was lt)
                h;
            counted = omega (arith, used', is, long, up);
          }),
      ((λ _. (ws, omega (arith, long, up), refl)), λ ne. absurd (ne is)),
    ))
    (λ ne. (
      k,
      keeps,
      tt,
      subst (λ (b : Bool). Kept plan (whole (set s.words used_word (either b new n)) s.homes (set s.views id k))) (sym (ne_eqb n old ne)) (same_kept plan s id used_word k at r),
      ((λ is. absurd (ne is)), λ _. refl),
    ))

-- ---- own words

pub own_loads : (plan : Plan) (count id i : ℕ) (me : Me Slot Holder) → Allows (Kept plan) count id me i (λ n. n) (OwnLoads (step count i 0 0 none) me)
own_loads plan count id i me s r size at small = (
  me.0,
  keeps,
  tt,
  same_kept plan s id i me.0 at r,
  (
    λ o h ir. let lo = ir.0 in let hi = ir.1 in ap (λ x. get_or s.words x 0) (let z : i ≡ o.at + (i - o.at) = omega (arith, lo) in z) ∙ r.own (i - o.at) id me.0 o at h (omega (arith, lo, hi)),
    refl,
  ),
)

pub own_stores : (plan : Plan) (count id i x : ℕ) (me : Me Slot Holder) → me.0.live ≡ true → InOwn i me.0 → Allows (Kept plan) count id me i (λ _. x) (λ _. OwnStores (step count i x 0 none) me x)
own_stores plan count id i x me live own s r size at small =
    let k : Holder = me.0 in
    let k' : Holder = with_stored k i x in
    let within = r.laid.own_in id k own.0 at own.1 in
    let low = within.0 in
    let high = within.1 in
    let lo = own.2.0 in
    let hi = own.2.1 in
    let top = r.laid.used_in in
    let same_length = length-set s.words i x in
    let used' : get_or (set s.words i x) used_word 0 ≡ get_or s.words used_word 0 = get_or-set_other s.words i used_word x 0 (λ z. omega (arith, z, lo, low)) in (
      k',
      keeps,
      tt,
      room_step plan s r id k k' (set s.words i x) at live record {
        alive = live;
        line = refl;
        due = refl;
        size = refl;
        blocks = refl;
        ahead = refl;
        doing = refl;
        late = refl;
        shapes = refl;
        front = refl;
        known = refl;
        thread = refl;
        ended = refl;
        unsplit = λ y e. e;
        refusals = r.run.refusals;
        count = refl;
        shows = λ h x. x;
        sinks = λ x st. st;
        is_run = r.is_run;
        knows = each_set (λ j u. u.live ≡ true → runs.Knows plan.slots r.run u.view) s.views id k' (r.knows id k at) (λ j u _ a. r.knows j u a);
        refused = λ t. each_more (Below (get_or s.words used_word 0) (length s.words)) (Below (get_or (set s.words i x) used_word 0) (length (set s.words i x)))
            (below_up (get_or s.words used_word 0) (get_or (set s.words i x) used_word 0) (length s.words) (length (set s.words i x)) (omega (arith, used')) same_length) (refused_at r.run.refusals t) (r.refused t);
        long = same_length;
        up = omega (arith, used');
        top = omega (arith, used', top);
        mine = λ y q. let b = stored_back i x k.own q.0 q.1 in let same = b.3 in let place = b.2 in let a = q.2.0 in let c = q.2.1 in inl (b.0, b.1, (omega (arith, a, place), omega (arith, c, place, same)));
        own_in = λ o h. let b = stored_back i x k.own o h in let same = b.3 in let place = b.2 in let w = r.laid.own_in id k b.0 at b.1 in let w0 = w.0 in let w1 = w.1 in (omega (arith, w0, place), omega (arith, w1, place, same, used'));
        single = λ y o p h g ih ig.
            let b = stored_back i x k.own o h in
            let c = stored_back i x k.own p g in
            let bp = b.2 in let bs = b.3 in let cp = c.2 in let cs = c.3 in
            let i0 = ih.0 in let i1 = ih.1 in let g0 = ig.0 in let g1 = ig.1 in
            b.4 ∙ (ap (stored i x) (r.laid.single y id k b.0 c.0 at b.1 c.1 (omega (arith, i0, bp), omega (arith, i1, bp, bs)) (omega (arith, g0, cp), omega (arith, g1, cp, cs))) ∙ sym c.4);
        blocks_same = λ y b h ib. get_or-set_other s.words i y x 0 (λ z. r.laid.beside y id k b at h (subst (λ q. InOwn q k) (sym z) own) ib);
        others_same = λ y j u ne b q. get_or-set_other s.words i y x 0 (λ z. ne (r.laid.alone y j id u k b at q (subst (λ q. InOwn q k) (sym z) own)));
        owns = λ y o h lt.
            let b = stored_back i x k.own o h in
            subst (λ (p : Region). y < length p.words → get_or (set s.words i x) (p.at + y) 0 ≡ get_or p.words y 0) (sym b.4)
            (stored_word s.words i x y b.0 (omega (arith, hi, high, top)) (λ lt. r.own y id k b.0 at b.1 lt)) lt;
        counted = let same = stored_count i x k.own in omega (arith, used', same);
      },
      refl,
    )
