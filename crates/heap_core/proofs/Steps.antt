-- One step of one seat on one block keeps the law, where it keeps the rule of that block and of those that it touches: a quiet step, one that
-- publishes words ahead of their entry, and one that makes an entry.
use Rattle.std.proofs.Common.{◌≡◌, ◌≤◌, ◌<◌, ◌⊎◌, ◌==◌, ℕ, ◌+◌, ◌-◌, ◌*◌, Bool, true, false, List, [], ◌∷◌, ◌++◌, length, set, get_or, Option, Some, None, refl, sym, ap, ◌∙◌, subst, inl, inr, ⊎_elim, arith, le_refl, length-append, length-set, get_or-set_other, eq-eqb, eqb-true, true≢false}
use Rattle.std.specs.Option.{option_map}
use Rattle.atomic_table.specs.Table.{State}
use Rattle.rb_model.specs.declared.value.Id.{Id}
use Rattle.rb_model.specs.declared.value.Ref.{Ref}
use Rattle.rb_model.specs.Log.{Call, On, Start, Gather, Print, End, Entry, Refusal, is_end, printed}
use Rattle.rb_model.specs.Started.{started_by}
use Rattle.rb_model.specs.Things.{Thing}
use Rattle.rb_shared.specs.History.{History}
use Rattle.rb_model.specs.Values.{Reference}
use Rattle.rb_shared.specs.Lists.{Has, Each}
use Rattle.rb_shared.specs.Step.{Steps, store_behind, ended_thing}
use Rattle.rb_shared.specs.Store.{Store, found}
use Rattle.rb_shared.specs.View.{View, with_entry, started_number}
use Rattle.rb_shared.proofs.Runs.{each_more, has_front, found_more}
use Rattle.shape_core.specs.Shape.{Shape}
use Rattle.shared_run.specs.Closing.{ShowsRun}
use Rattle.shared_run.specs.Standing.{NamesHeld}
use Rattle.shared_run.specs.Run.{Run, IsNote, MayEnter, MayStill, run_after, opened, refused_at}
use Rattle.shared_run.specs.Run as runs
use Rattle.shared_run.proofs.Closing.{open_hides}
use Rattle.shared_run.proofs.Events.{has_either, refused_opened}
use Rattle.shared_run.proofs.Knowing.{noted, knows_on}
use Rattle.shared_run.proofs.Points.{point_entry}
use Rattle.shared_run.proofs.Enters.{run_on, entry_grows, entry_knows, unended, new_is_past}
use Rattle.shared_run.proofs.Sinking.{stands_silent}
use Rattle.heap_core.specs.Places.{used_word, turn_word, shape_words, thread_words, tree_lock}
use Rattle.heap_core.specs.Handing.{Plan, Slot, Homes}
use Rattle.heap_core.specs.Blocks.{Block, ShapeAt, place_of, size_of, home_of, id_of, number_of, HasHome, Inside, InFamily, words_of_shapes, LockAt, LinkAt, IsOfTree}
use Rattle.heap_core.specs.Links.{IsNth}
use Rattle.heap_core.specs.Charges.{budget, tally_of}
use Rattle.heap_core.specs.View.{Region, InRegion, words_in, Holder, Busy, InOwn, Knows, HasTree, held, busy_at}
use Rattle.heap_core.specs.Moment.{Moment, At}
use Rattle.heap_core.specs.Turns.{Any}
use Rattle.heap_core.specs.Rule.{IsMade, Stands, Seated, Below, LiesIn, Kept, moment, owned}
use Rattle.heap_core.proofs.Frames.{Follows, Stays, WasBusy}
use Rattle.heap_core.proofs.Holders.{at_within, each_set, apart_set, keeps_set, owned_set, shapes_append}
use Rattle.heap_core.proofs.Things.{Touches, found_behind, found_at_end, over_same, over_now, over_other, size_after}
use mathlib.Core.Option.{some-injective}
use mathlib.Core.Logic.{dite}
use native.Mathlib.Decide.{ℕ_discrete}
use lib.ListN.{get_elem?}
use Rattle.atomic_table.proofs.Lists.{set_here, set_else}
use Rattle.heap_core.proofs.Tallies.{made_after}
use Rattle.heap_core.proofs.Owes.{whole, owes_kept}
use Rattle.heap_core.proofs.Rooms.{laid_step}
use Rattle.heap_core.proofs.Seats.{note_thread, note_ended, note_known, note_claims, seated_note, lies_more, there, number_thing, nobody_claims}

-- where a thread is started there is one list of refusals more
opened_most : (rs : List (List Refusal)) (ps : List (ℕ × Reference)) → length (opened rs ps) ≤ length rs + length ps
opened_most rs [] = omega arith
opened_most rs (p ∷ ps) = let l = length-append rs ([] ∷ []) in omega (arith, l)

-- a region is a part of one of these, with its words
abbrev pub PartOf : List Region → Region → Type 0
PartOf os p = (o : Region) × Has os o × (o.at ≤ p.at) × (p.at + length p.words ≤ o.at + length o.words) × ((x : ℕ) → x < length p.words → get_or p.words x 0 ≡ get_or o.words (p.at - o.at + x) 0)

-- a region is a part of itself
pub whole_part : (os : List Region) (o : Region) → Has os o → PartOf os o
whole_part os o h = (o, h, le_refl o.at, le_refl (o.at + length o.words), λ x lt. ap (λ y. get_or o.words y 0) (let z : x ≡ o.at - o.at + x = omega arith in z))

-- one of these reaches so far
abbrev pub EndsIn : List Region → ℕ → Type 0
EndsIn os n = (o : Region) × Has os o × (n ≤ o.at + length o.words)

-- the words of the own regions lie below the used words
pub ends_below : {plan : Plan} (s : State Slot Holder) (r : Kept plan s) (id : ℕ) (k : Holder) → At s.views id k → (n : ℕ) → EndsIn k.own n → n ≤ get_or s.words used_word 0
ends_below s r id k at n end = let high = (r.laid.own_in id k end.0 at end.1).1 in let le = end.2 in omega (arith, le, high)

-- a step that leaves what the pass knows and who has the lock of the tree leaves that it knows the tree
pub tree_stays : {plan : Plan} (s : State Slot Holder) (r : Kept plan s) (id : ℕ) (k k' : Holder) → At s.views id k → k.live ≡ true → ((c : Block) → Knows k c → Knows k' c) → busy_at tree_lock k'.doing ≡ busy_at tree_lock k.doing
    → HasTree k' → (c : Block) → Has r.blocks c → IsOfTree c → Knows k' c
tree_stays s r id k k' at live more same has c h t = more c (r.tree id k at live (sym same ∙ has) c h t)

-- the same place
abbrev pub is_home : Block → ℕ → Bool
is_home b x = x == home_of b

module _ (plan : Plan) (s : State Slot Holder) (r : Kept plan s) (hs' : Homes) (id : ℕ) (k k' : Holder) (i n : ℕ) (b : Block)
    (at : At s.views id k) (live : k.live ≡ true) (alive : k'.live ≡ true) (line : k'.line ≡ k.line) (size : k'.size ≡ k.size) (here : Has r.blocks b) (inside : Inside i b) where
  abbrev pub ws' : List ℕ
  ws' = set s.words i n

  abbrev pub views' : List Holder
  views' = set s.views id k'

  abbrev pub after : Run → List (Option ℕ) → List Block → Moment
  after run lines blocks = moment plan (whole ws' hs' views') run lines blocks

  -- ---- words

  pub used_same : get_or ws' used_word 0 ≡ get_or s.words used_word 0
  used_same = get_or-set_other s.words i used_word n 0 (λ e. (r.laid.blocks_in b here).1 (subst (λ x. Inside x b) (sym e) inside))

  pub word_else : (x : ℕ) (c : Block) → Has r.blocks c → Inside x c → (c ≡ b → ⊥) → get_or ws' x 0 ≡ get_or s.words x 0
  word_else x c hc ic ne = get_or-set_other s.words i x n 0 (λ e. ne (r.laid.apart i c b hc here (subst (λ y. Inside y c) e ic) inside))

  pub own_same : (x j : ℕ) (u : Holder) → At s.views j u → InOwn x u → get_or ws' x 0 ≡ get_or s.words x 0
  own_same x j u a o = get_or-set_other s.words i x n 0 (λ e. r.laid.beside x j u b a here o (subst (λ y. Inside y b) (sym e) inside))

  -- a home whose rule is not shown anew is not this block's
  pub family_same : (mine : ℕ → Bool) → mine (home_of b) ≡ true → (x : ℕ) (c : Block) → Has r.blocks c → mine (home_of c) ≡ false → InFamily r.blocks (home_of c) x → get_or ws' x 0 ≡ get_or s.words x 0
  family_same mine own x c hc not_mine f = word_else x f.0 f.1 f.3 (λ is. true≢false (sym own ∙ (ap (λ (y : Block). mine (home_of y)) (sym is) ∙ (ap mine f.2 ∙ not_mine))))

  pub stays_else : k'.view.thread ≡ k.view.thread → (mine : ℕ → Bool) (run : Run) (lines : List (Option ℕ)) (added : List Block) → ((x : ℕ) → mine x ≡ false → busy_at x k'.doing ≡ busy_at x k.doing)
      → (c : Block) → Has r.blocks c → mine (home_of c) ≡ false → Stays (moment plan s r.run r.lines r.blocks) (after run lines (r.blocks ++ added)) (home_of c)
  stays_else thread mine run lines added doing c hc not_mine = each_set (λ j u. u.live ≡ true → (busy_at (home_of c) u.doing ≡ Busy.Idle) ⊎ WasBusy (moment plan s r.run r.lines r.blocks) (home_of c) j u) s.views id k'
      (λ _. inr (k, at, live, sym (doing (home_of c) not_mine), sym thread)) (λ j u _ a l. inr (u, a, l, refl, refl))

  pub others_own : ((x : ℕ) (o : Region) → Has k'.own o → x < length o.words → get_or ws' (o.at + x) 0 ≡ get_or o.words x 0) → (x j : ℕ) (u : Holder) (o : Region) → At views' j u → Has u.own o → x < length o.words → get_or ws' (o.at + x) 0 ≡ get_or o.words x 0
  others_own mine x j u o a = each_set (λ j u. Has u.own o → x < length o.words → get_or ws' (o.at + x) 0 ≡ get_or o.words x 0) s.views id k' (mine x o)
      (λ j u _ a h lt. own_same (o.at + x) j u a (o, h, (omega arith, omega (arith, lt))) ∙ r.own x j u o a h lt) j u a

  mine_there : At views' id k'
  mine_there = set_here s.views id k' (at_within s.views id k at)

  -- one pass alone has the lock of the tree
  pub sole_holder : (j l : ℕ) (u w : Holder) → At s.views j u → At s.views l w → u.live ≡ true → w.live ≡ true → HasTree u → HasTree w → j ≡ l
  sole_holder j l u w a c alive_u alive_w has also = let rule = r.each (LockAt tree_lock) r.lock in (rule.1 j u a alive_u has).1 ∙ sym (rule.1 l w c alive_w also).1

  -- what comes to the tree, the pass that has its lock adds
  pub tree_set : (added : List Block) → (HasTree k' → (c : Block) → Has r.blocks c → IsOfTree c → Knows k' c) → ((c : Block) → Has added c → IsOfTree c → Knows k' c)
      → ((j : ℕ) (u : Holder) → (j ≡ id → ⊥) → At s.views j u → u.live ≡ true → HasTree u → (c : Block) → Has added c → IsOfTree c → ⊥)
      → (j : ℕ) (u : Holder) → At views' j u → u.live ≡ true → HasTree u → (c : Block) → Has (r.blocks ++ added) c → IsOfTree c → Knows u c
  tree_set added old new nobody = each_set (λ j u. u.live ≡ true → HasTree u → (c : Block) → Has (r.blocks ++ added) c → IsOfTree c → Knows u c) s.views id k'
      (λ _ has c h t. ⊎_elim (λ (was : Has r.blocks c). old has c was t) (λ (come : Has added c). new c come t) (has_either r.blocks added c h))
      (λ j u ne a l has c h t. ⊎_elim (λ (was : Has r.blocks c). r.tree j u a l has c was t) (λ (come : Has added c). absurd (nobody j u ne a l has c come t)) (has_either r.blocks added c h))

  -- a shape that is ahead in some view stays so, where the own ones are ahead or made
  pub ahead_else : (made : List Shape) → ((shape : Shape) → Has k.shapes shape → Has made shape ⊎ Has k'.shapes shape) → (shape : Shape) (j : ℕ) (u : Holder) → At s.views j u → u.live ≡ true → Has u.shapes shape → IsMade made views' shape
  ahead_else made own shape j u a l h = dite (ℕ_discrete j id)
      (λ is. let same : k ≡ u = some-injective k u (sym at ∙ (ap (get_elem? s.views) (sym is) ∙ a)) in
      ⊎_elim (λ (m : Has made shape). inl m) (λ (m : Has k'.shapes shape). inr (id, k', mine_there, alive, m)) (own shape (subst (λ (x : Holder). Has x.shapes shape) (sym same) h)))
      (λ ne. inr (j, u, set_else s.views id j k' ne ∙ a, l, h))

  pub ahead_new : (made : List Shape) (shape : Shape) → Has made shape ⊎ Has k'.shapes shape → IsMade made views' shape
  ahead_new made shape m = ⊎_elim (λ (h : Has made shape). inl h) (λ (h : Has k'.shapes shape). inr (id, k', mine_there, alive, h)) m

  -- while a thread goes on, no history is shown
  pub hidden : ((h : History) → ShowsRun r.run h → ⊥) → k'.front ≡ k.front → (run : Run) → (j : ℕ) (u : Holder) → At views' j u → (h : History) → u.front ≡ Some h → ShowsRun run h
  hidden none same run = each_set (λ j u. (h : History) → u.front ≡ Some h → ShowsRun run h) s.views id k' (λ h e. absurd (none h (r.shows id k at h (sym same ∙ e)))) (λ j u _ a h e. absurd (none h (r.shows j u a h e)))

  -- ---- a quiet step, and one that publishes ahead: no entry is made

  -- there is room for so many shapes
  abbrev pub HasRoom : ℕ → Type 0
  HasRoom number = shape_words * number + owned s.views + held k' ≤ get_or s.words used_word 0 + held k

  -- What a step owes that makes no entry. It may publish own words.
  pub record Quiet (added : List Block) : Type 0 where
    pub note : IsNote k.view k'.view
    pub due : k'.due ≡ k.due
    pub late : Each (MayStill plan.slots r.run k.view.thread) k'.late
    pub knows_more : (c : Block) → Knows k c → Knows k' c
    pub knows_in : (c : Block) → Knows k' c → Has (r.blocks ++ added) c
    -- each region that is left is a part of one that was, and what comes was own
    pub left : (o : Region) → Has k'.own o → PartOf k.own o
    pub single : (x : ℕ) (o p : Region) → Has k'.own o → Has k'.own p → InRegion x o → InRegion x p → o ≡ p
    pub counted : held k ≡ held k' + words_of_shapes added
    pub was_own : (x : ℕ) (c : Block) → Has added c → Inside x c → InOwn x k × (InOwn x k' → ⊥)
    pub bounded : (c : Block) → Has added c → place_of c + size_of c ≤ get_or s.words used_word 0
    pub parted : (x : ℕ) (c d : Block) → Has added c → Has added d → Inside x c → Inside x d → c ≡ d
    -- what is in progress elsewhere goes on
    pub doing : (x : ℕ) → is_home b x ≡ false → busy_at x k'.doing ≡ busy_at x k.doing
    -- off the turn word the slot is left
    pub slot : is_home b turn_word ≡ false → hs' ≡ s.homes
    -- the block that was stepped on stands, with its parts, and so do those that came, which are no things
    pub anew : (c : Block) → Has r.blocks c → home_of c ≡ home_of b → Stands (after r.run r.lines (r.blocks ++ added)) c
    pub new : (c : Block) → Has added c → Stands (after r.run r.lines (r.blocks ++ added)) c
    pub no_thing : (c : Block) → Has added c → id_of c ≡ None
    -- the pass that has the lock of the tree knows the whole tree, and none but that one adds to it
    pub tree : HasTree k' → (c : Block) → Has r.blocks c → IsOfTree c → Knows k' c
    pub grows : (c : Block) → Has added c → IsOfTree c → HasTree k × Knows k' c
    pub linked : (shape : Shape) (place : ℕ) → Has added (ShapeAt shape place) → (number : ℕ) × IsNth (r.blocks ++ added) number place
    pub once : (home link to number : ℕ) → Has added (LinkAt home link to number) → (other : ℕ) → IsNth (r.blocks ++ added) other to → number ≡ other
    pub few : (home link to number : ℕ) → Has added (LinkAt home link to number) → HasRoom number
    pub deep : (shape : Shape) (place : ℕ) → Has added (ShapeAt shape place) → HasRoom (length shape.path)
    pub shapes_on : (shape : Shape) → Has k.shapes shape → Has k'.shapes shape
    pub shows : (h : History) → k'.front ≡ Some h → ShowsRun r.run h
    pub shapes_new : (shape : Shape) (place : ℕ) → Has added (ShapeAt shape place) → Has k'.shapes shape
    pub homes : (c : Block) → Has added c → HasHome (r.blocks ++ added) c
    pub one_shape : (shape : Shape) (place to : ℕ) → Has added (ShapeAt shape place) → Has (r.blocks ++ added) (ShapeAt shape to) → place ≡ to

  pub quiet_step : (added : List Block) → Quiet added → Kept plan (whole ws' hs' views')
  quiet_step added q =
      let top = r.laid.used_in in
      let used = used_same in
      let long = length-set s.words i n in
      owes_kept plan s r ws' hs' views' record {
        run = r.run;
        added = added;
        lines = r.lines;
        mine = is_home b;
        is_run = r.is_run;
        knows = each_set (λ j u. u.live ≡ true → runs.Knows plan.slots r.run u.view) s.views id k' (λ _. noted plan.slots r.run k.view k'.view q.note (r.knows id k at live)) (λ j u _ a. r.knows j u a);
        apart = apart_set s.views id k k' r.apart at (λ t c. inl (note_claims k k' t (alive ∙ sym live) q.note c));
        seated = seated_note plan.slots r.run.store r.lines s.views id k k' r.seated at (alive ∙ sym live) line q.due q.note;
        laid = laid_step s.words ws' s.views r.blocks added r.laid id k k' at (λ _. live) size long (omega (arith, used)) (omega (arith, used, long, top))
            (λ x o. let part = q.left o.0 o.1 in let lo = o.2.0 in let hi = o.2.1 in let from = part.2 in let to = part.3 in inl (part.0, part.1, (omega (arith, lo, from), omega (arith, hi, to))))
            (λ o h. let part = q.left o h in let was = r.laid.own_in id k part.0 at part.1 in let low = was.0 in let high = was.1 in let from = part.2 in let to = part.3 in (omega (arith, low, from), omega (arith, high, to, used)))
            q.single
            q.was_own
            q.parted
            (λ c h. let le = q.bounded c h in omega (arith, le, used));
        words = λ x c hc not_mine f. family_same (is_home b) (eq-eqb (home_of b) (home_of b) refl) x c hc not_mine f;
        things = λ y c hc not_mine is. inl (refl, λ t. refl);
        sizes = λ y c hc not_mine is. refl;
        threads = λ t lt. lt;
        stays = stays_else (note_thread k.view k'.view q.note) (is_home b) r.run r.lines added q.doing;
        turn = λ off. record {
          homes = q.slot off;
          lines = refl;
          sinks = λ x st. st;
          over = λ t. refl;
          threads = λ t lt. lt;
          keeps = keeps_set s.views id k k' at alive (q.doing turn_word off) (λ g. note_ended k.view k'.view q.note ∙ g);
        };
        anew = λ c hc mine. q.anew c hc (eqb-true (home_of c) (home_of b) mine);
        new = q.new;
        one = λ y c d hc hd ic id. absurd (let none_is = q.no_thing c hc in let h : None ≡ Some y = sym none_is ∙ ic in cc);
        tree = tree_set added q.tree (λ c h t. (q.grows c h t).1) (λ j u ne a l has c h t. ne (sole_holder j id u k a at l live has (q.grows c h t).0));
        linked = q.linked;
        once = q.once;
        spare = let owns = owned_set s.views id k k' at in let c = q.counted in omega (arith, owns, c, used);
        few = λ home link to number h. let owns = owned_set s.views id k k' at in let le = q.few home link to number h in omega (arith, owns, le, used);
        deep = λ shape place h. let owns = owned_set s.views id k k' at in let le = q.deep shape place h in omega (arith, owns, le, used);
        one_thread = λ n c d hc hd ic id. absurd (let y = number_thing c n ic in let h : None ≡ Some y.0 = sym (q.no_thing c hc) ∙ y.1 in cc);
        one_shape = q.one_shape;
        homes = q.homes;
        known = λ j u c a. each_set (λ j u. Knows u c → Has (r.blocks ++ added) c) s.views id k' (q.knows_in c) (λ j u _ a kn. has_front r.blocks added c (r.known j u c a kn)) j u a;
        lie = each_set (λ j u. u.live ≡ true → Each (LiesIn u.blocks) u.view.known) s.views id k'
            (λ _. subst (Each (LiesIn k'.blocks)) (sym (note_known k.view k'.view q.note)) (lies_more k.blocks k'.blocks q.knows_more k.view.known (r.lie id k at live))) (λ j u _ a. r.lie j u a);
        own = others_own (λ x o h lt.
            let part = q.left o h in
            let from = part.2 in
            let to = part.3 in
            ap (λ y. get_or ws' y 0) (let z : o.at + x ≡ part.0.at + (o.at - part.0.at + x) = omega (arith, from) in z)
            ∙ (own_same (part.0.at + (o.at - part.0.at + x)) id k at (part.0, part.1, (omega arith, omega (arith, lt, from, to)))
            ∙ (r.own (o.at - part.0.at + x) id k part.0 at part.1 (omega (arith, lt, from, to)) ∙ sym (part.4 x lt))));
        used = let was = r.used in let owns = owned_set s.views id k k' at in let counted = q.counted in let more = shapes_append r.blocks added in omega (arith, was, owns, counted, more, used);
        begun = let was = r.begun in let owns = owned_set s.views id k k' at in let counted = q.counted in omega (arith, was, owns, counted, used);
        made_on = λ shape h. h;
        ahead_on = ahead_else (tally_of plan.slots r.run.events).shapes (λ shape h. inr (q.shapes_on shape h));
        made_new = λ shape place h. ahead_new (tally_of plan.slots r.run.events).shapes shape (inr (q.shapes_new shape place h));
        late = each_set (λ j u. u.live ≡ true → Each (MayStill plan.slots r.run u.view.thread) u.late) s.views id k' (λ _. subst (λ t. Each (MayStill plan.slots r.run t) k'.late) (sym (note_thread k.view k'.view q.note)) q.late) (λ j u _ a. r.late j u a);
        refused = λ t. subst (λ u. Each (Below u (length ws')) (refused_at r.run.refusals t)) (sym used) (subst (λ m. Each (Below (get_or s.words used_word 0) m) (refused_at r.run.refusals t)) (sym long) (r.refused t));
        spent = each_set (λ j u. u.live ≡ false → held u ≡ 0) s.views id k' (λ e. absurd (true≢false (sym alive ∙ e))) (λ j u _ a. r.spent j u a);
        shows = each_set (λ j u. (h : History) → u.front ≡ Some h → ShowsRun r.run h) s.views id k' q.shows (λ j u _ a. r.shows j u a);
      }

  -- ---- an entry is made, at the end of the run

  -- What a step owes that makes an entry: its plain step, and that the words that it publishes are those that the entry is charged.
  pub record Enters (added : List Block) (e : Entry) (refs : List Ref) (z : Store) : Type 0 where
    pub going : k.view.ended ≡ false
    pub may : MayEnter k.view r.run.store e
    pub steps : Steps plan.slots r.run.store k.view.thread e z
    pub named : Each (NamesHeld z) refs
    pub view : k'.view ≡ with_entry k.view e refs
    pub own : k'.own ≡ []
    pub ahead : k'.ahead ≡ 0
    pub late : k'.late ≡ []
    pub front : k'.front ≡ k.front
    pub knows_in : (c : Block) → Knows k' c → Has (r.blocks ++ added) c
    pub lie : Each (LiesIn k'.blocks) k'.view.known
    pub lines : List (Option ℕ)
    pub seated : Seated plan.slots z lines views'
    pub charged : budget plan.slots r.run.events + held k + shape_words * length (tally_of plan.slots (run_after r.run k.view.thread e z).events).shapes
        ≡ budget plan.slots (run_after r.run k.view.thread e z).events + words_of_shapes added + shape_words * length (tally_of plan.slots r.run.events).shapes
    -- a thread that is started takes its words
    pub starts : thread_words * length (started_by e.call e.reply) ≤ held k
    -- the words that come were own
    pub inside_own : (x : ℕ) (c : Block) → Has added c → Inside x c → InOwn x k
    pub bounded : (c : Block) → Has added c → EndsIn k.own (place_of c + size_of c)
    pub parted : (x : ℕ) (c d : Block) → Has added c → Has added d → Inside x c → Inside x d → c ≡ d
    -- the homes that are shown anew, that of the receiver among them
    pub mine : ℕ → Bool
    pub own_home : mine (home_of b) ≡ true
    pub receiver : (y : Id) (c : Block) → Has r.blocks c → id_of c ≡ Some y → Touches e.call y → mine (home_of c) ≡ true
    -- and that of the thread that ends
    pub ends : (c : Block) → Has r.blocks c → is_end e.call ≡ true → number_of c ≡ Some k.view.thread → mine (home_of c) ≡ true
    pub doing : (x : ℕ) → mine x ≡ false → busy_at x k'.doing ≡ busy_at x k.doing
    -- where the turn is not shown anew, the slot and the lines are left, and the call neither prints, nor ends its thread or starts another
    pub off_turn : mine turn_word ≡ false → (hs' ≡ s.homes) × (lines ≡ r.lines) × (printed e.call ≡ []) × (is_end e.call ≡ false) × (started_by e.call e.reply ≡ [])
    pub anew : (c : Block) → Has r.blocks c → mine (home_of c) ≡ true → Stands (after (run_after r.run k.view.thread e z) lines (r.blocks ++ added)) c
    pub new : (c : Block) → Has added c → Stands (after (run_after r.run k.view.thread e z) lines (r.blocks ++ added)) c
    -- what comes was not there
    pub homes : (c : Block) → Has added c → HasHome (r.blocks ++ added) c
    -- which is neither a shape nor a link: these come ahead of their entry
    pub no_tree : (c : Block) → Has added c → IsOfTree c → ⊥
    pub tree : HasTree k' → (c : Block) → Has r.blocks c → IsOfTree c → Knows k' c
    pub shapes_on : (shape : Shape) → Has k.shapes shape → Has (tally_of plan.slots (run_after r.run k.view.thread e z).events).shapes shape ⊎ Has k'.shapes shape
    pub fresh : (y : Id) (c : Block) → Has added c → id_of c ≡ Some y → found r.run.store y ≡ None
    pub one : (y : Id) (c d : Block) → Has added c → Has added d → id_of c ≡ Some y → id_of d ≡ Some y → c ≡ d
    pub one_thread : (n : ℕ) (c d : Block) → Has added c → Has (r.blocks ++ added) d → number_of c ≡ Some n → number_of d ≡ Some n → c ≡ d

  module _ (added : List Block) (e : Entry) (refs : List Ref) (z : Store) (c : Enters added e refs z) where
    abbrev t : ℕ
    t = k.view.thread

    abbrev run' : Run
    run' = run_after r.run t e z

    -- another thing is as it was, or the thread ends
    follows : (y : Id) (d : Block) → Has r.blocks d → c.mine (home_of d) ≡ false → id_of d ≡ Some y → Follows (moment plan s r.run r.lines r.blocks) (after run' c.lines (r.blocks ++ added)) d y
    follows y d hd not_mine is = by_call e.call refl
      where
        far : Touches e.call y → ⊥
        far touched = true≢false (sym (c.receiver y d hd is touched) ∙ not_mine)

        was : (thing : Thing) × (found r.run.store y ≡ Some thing)
        was = there plan s r d y hd is

        goes_on : is_end e.call ≡ false → Follows (moment plan s r.run r.lines r.blocks) (after run' c.lines (r.blocks ++ added)) d y
        goes_on going = inl (
          ap (λ x. found x y) c.steps.store_is ∙ (found_behind plan.slots (r.run.store ++ e.moved) t e.call y was.0 (found_more r.run.store e.moved y was.0 was.1) far going ∙ sym was.1),
          λ u. over_same r.run.events t e going u,
        )

        by_call : (x : Call) → e.call ≡ x → Follows (moment plan s r.run r.lines r.blocks) (after run' c.lines (r.blocks ++ added)) d y
        by_call (End how) same = inr (
          t,
          how,
          ap (λ x. found x y) c.steps.store_is
              ∙ (ap (λ x. found (store_behind plan.slots (r.run.store ++ e.moved) t x) y) same
              ∙ (found_at_end plan.slots (r.run.store ++ e.moved) t how y ∙ ap (option_map (ended_thing t how)) (found_more r.run.store e.moved y was.0 was.1 ∙ sym was.1))),
          (over_now r.run.events t e (ap is_end same), λ u ne. over_other r.run.events t e u ne),
          λ own. true≢false (sym (c.ends d hd (ap is_end same) own) ∙ not_mine),
        )
        by_call (On thing act) same = goes_on (ap is_end same)
        by_call (Start new body values) same = goes_on (ap is_end same)
        by_call (Gather thread) same = goes_on (ap is_end same)
        by_call (Print bytes) same = goes_on (ap is_end same)

    pub change_to : Kept plan (whole ws' hs' views')
    change_to =
        let knew = r.knows id k at live in
        let grows = entry_grows plan.slots r.run k.view e z r.is_run knew c.may c.steps in
        let open_log = unended plan.slots r.run k.view e z r.is_run knew c.may c.steps c.going in
        let top = r.laid.used_in in
        let some_words = r.laid.opening_in in
        let used = used_same in
        let long = length-set s.words i n in
        let none_own : (o : Region) → Has k'.own o → ⊥ = λ o h. subst (λ os. Has os o) c.own h in
        let count : words_in k'.own ≡ 0 = ap words_in c.own in
        owes_kept plan s r ws' hs' views' record {
          run = run';
          added = added;
          lines = c.lines;
          mine = c.mine;
          is_run = run_on plan.slots r.run k.view e z r.is_run knew c.may c.steps;
          knows = each_set (λ j u. u.live ≡ true → runs.Knows plan.slots run' u.view) s.views id k'
              (λ _. subst (runs.Knows plan.slots run') (sym c.view) (entry_knows plan.slots r.run k.view e z r.is_run knew c.may c.steps refs c.going c.named))
              (λ j u ne a l. knows_on plan.slots r.run run' t u.view grows open_log (r.knows j u a l)
              (λ is. ne (r.apart j id t u k a at (l, inl is) (live, inl refl)))
              (λ is. ne (r.apart j id t u k a at (l, inr is) (live, inl refl))));
          apart = apart_set s.views id k k' r.apart at (λ y cl. ⊎_elim
              (λ (is : k'.view.thread ≡ y). inl (live, inl (ap (λ (v : Rattle.rb_shared.specs.View.View). v.thread) (sym c.view) ∙ is)))
              (λ (is : k'.view.unsplit ≡ Some y). inr (nobody_claims plan s r y (new_is_past plan.slots r.run k.view e z r.is_run knew c.may c.steps y (ap (λ (v : Rattle.rb_shared.specs.View.View). v.unsplit) (sym c.view) ∙ is))))
              cl.1);
          seated = c.seated;
          laid = laid_step s.words ws' s.views r.blocks added r.laid id k k' at (λ _. live) size long (omega (arith, used)) (omega (arith, used, long, top))
              (λ x o. absurd (none_own o.0 o.1))
              (λ o h. absurd (none_own o h))
              (λ x o p h. absurd (none_own o h))
              (λ x d h ic. (c.inside_own x d h ic, λ o. none_own o.0 o.1))
              c.parted
              (λ d h. let end = c.bounded d h in let high = (r.laid.own_in id k end.0 at end.1).1 in let le = end.2 in omega (arith, le, high, used));
          words = λ x d hd not_mine f. family_same c.mine c.own_home x d hd not_mine f;
          things = λ y d hd not_mine is. follows y d hd not_mine is;
          sizes = λ y d hd not_mine is. let was = there plan s r d y hd is in
              size_after plan.slots r.run.events r.run.store t e y was.0 (λ touched. true≢false (sym (c.receiver y d hd is touched) ∙ not_mine)) was.1 c.steps.joins;
          threads = λ n lt. let le = grows.more in omega (arith, lt, le);
          stays = stays_else (ap (λ (v : View). v.thread) c.view) c.mine run' c.lines added c.doing;
          turn = λ off. let left = c.off_turn off in record {
            homes = left.0;
            lines = left.1;
            sinks = λ x st. stands_silent Any plan.begun r.run.events r.run.refusals t e x st left.2;
            over = λ u. over_same r.run.events t e left.3 u;
            threads = λ n lt. subst (λ rs. n < length rs) (ap (opened r.run.refusals) left.4) lt;
            keeps = keeps_set s.views id k k' at alive (c.doing turn_word off) (λ _. ap (λ (v : View). v.ended) c.view ∙ left.3);
          };
          anew = c.anew;
          new = c.new;
          one = λ y d f hd hf is also. ⊎_elim
              (λ (old : Has r.blocks f). absurd (let was = there plan s r f y old also in let gone = c.fresh y d hd is in let h : None ≡ Some was.0 = sym gone ∙ was.1 in cc))
              (λ (come : Has added f). c.one y d f hd come is also)
              (has_either r.blocks added f hf);
          tree = tree_set added c.tree (λ d h t. absurd (c.no_tree d h t)) (λ j u ne a l has d h t. c.no_tree d h t);
          linked = λ shape place h. absurd (c.no_tree (ShapeAt shape place) h tt);
          once = λ home link to number h. absurd (c.no_tree (LinkAt home link to number) h tt);
          spare = let owns = owned_set s.views id k k' at in let none_ahead = c.ahead in omega (arith, owns, none_ahead, count, used);
          few = λ home link to number h. absurd (c.no_tree (LinkAt home link to number) h tt);
          deep = λ shape place h. absurd (c.no_tree (ShapeAt shape place) h tt);
          one_shape = λ shape place to h. absurd (c.no_tree (ShapeAt shape place) h tt);
          one_thread = c.one_thread;
          homes = c.homes;
          known = λ j u d a. each_set (λ j u. Knows u d → Has (r.blocks ++ added) d) s.views id k' (c.knows_in d) (λ j u _ a kn. has_front r.blocks added d (r.known j u d a kn)) j u a;
          lie = each_set (λ j u. u.live ≡ true → Each (LiesIn u.blocks) u.view.known) s.views id k' (λ _. c.lie) (λ j u _ a. r.lie j u a);
          own = others_own (λ x o h. absurd (none_own o h));
          used = let was = r.used in let owns = owned_set s.views id k k' at in let charged = c.charged in let more = shapes_append r.blocks added in let none_ahead = c.ahead in omega (arith, was, owns, charged, more, used, count, none_ahead);
          begun = let was = r.begun in let owns = owned_set s.views id k k' at in let none_ahead = c.ahead in let starts = c.starts in let few = opened_most r.run.refusals (started_by e.call e.reply) in
              omega (arith, was, owns, none_ahead, starts, few, used, count);
          made_on = λ shape h. made_after plan.slots r.run.events t e shape h;
          ahead_on = ahead_else (tally_of plan.slots run'.events).shapes c.shapes_on;
          made_new = λ shape place h. absurd (c.no_tree (ShapeAt shape place) h tt);
          late = each_set (λ j u. u.live ≡ true → Each (MayStill plan.slots run' u.view.thread) u.late) s.views id k' (λ _. subst (Each (MayStill plan.slots run' k'.view.thread)) (sym c.late) tt)
              (λ j u ne a l. each_more (MayStill plan.slots r.run u.view.thread) (MayStill plan.slots run' u.view.thread)
              (λ f p. (p.0, p.1, point_entry plan.slots r.run (λ y. Steps plan.slots y u.view.thread f y) u.view.thread t e z (λ is. ne (r.apart j id t u k a at (l, inl is) (live, inl refl))) p.2)) u.late (r.late j u a l));
          refused = λ x. subst (λ rs. Each (Below (get_or ws' used_word 0) (length ws')) rs) (sym (refused_opened r.run.refusals (Rattle.rb_model.specs.Started.started_by e.call e.reply) x))
              (subst (λ u. Each (Below u (length ws')) (refused_at r.run.refusals x)) (sym used) (subst (λ m. Each (Below (get_or s.words used_word 0) m) (refused_at r.run.refusals x)) (sym long) (r.refused x)));
          spent = each_set (λ j u. u.live ≡ false → held u ≡ 0) s.views id k' (λ q. absurd (true≢false (sym alive ∙ q))) (λ j u _ a. r.spent j u a);
          shows = hidden (open_hides plan.slots r.run k.view knew c.going) c.front run';
        }
