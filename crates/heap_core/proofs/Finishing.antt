-- A thread lays its end into its block, and the turn is given back with that end.
use Rattle.std.proofs.Common.{◌≡◌, ◌≤◌, ◌<◌, ℕ, ◌+◌, true, false, [], ◌++◌, length, set, get_or, Option, Some, None, refl, sym, ap, ◌∙◌, subst, inl, arith, append-nil, get_or-set_other, eq-eqb, true≢false}
use Rattle.std.proofs.lemmas.List.{get_or-set_same}
use Rattle.atomic_table.specs.Table.{State, keeps}
use Rattle.rb_model.specs.declared.value.Id.{Id}
use Rattle.rb_model.specs.Ends.{End as Ending}
use Rattle.rb_model.specs.Log.{Log, has_end}
use Rattle.rb_model.specs.Things.{Thread}
use Rattle.rb_shared.specs.Lists.{Has}
use Rattle.rb_shared.proofs.Runs.{each_has, found_has}
use Rattle.shared_run.specs.Run.{IsOver, EndsSo}
use Rattle.heap_core.specs.Places.{turn_word, tree_lock}
use Rattle.heap_core.specs.Handing.{Plan, Slot}
use Rattle.heap_core.specs.Blocks.{Block, ThreadAt, LockAt, TheTurn, Inside}
use Rattle.heap_core.specs.Ending.{LaysResult, LaysState, state_laid}
use Rattle.heap_core.specs.Threads.{ThreadStands, SaysEnd, TellsEnd, state_of, result_of}
use Rattle.heap_core.specs.View.{Holder, Busy, Idle, Locked, Turned, Ends, Knows, busy_at, with_busy}
use Rattle.heap_core.specs.Moment.{Moment, At, ended_in}
use Rattle.heap_core.specs.Rule.{Stands, Kept, moment}
use Rattle.heap_core.specs.Telling.{MayStore}
use Rattle.heap_core.proofs.Doings.{busy_set, busy_else, busy_twice}
use Rattle.heap_core.proofs.Holders.{each_set}
use Rattle.heap_core.proofs.Owes.{whole}
use Rattle.heap_core.proofs.Seats.{alone_at, note_same, only_block}
use Rattle.heap_core.proofs.Steps.{whole_part, tree_stays, quiet_step}

pub thread_not_turn : (plan : Plan) (s : State Slot Holder) (r : Kept plan s) (y : Id) (n maker at : ℕ) → Has r.blocks (ThreadAt y n maker at) → at ≡ turn_word → ⊥
thread_not_turn plan s r y n maker at here q = no (r.laid.apart turn_word TheTurn (ThreadAt y n maker at) r.turn here (omega arith, omega arith) (omega (arith, q), omega (arith, q)))
  where
    no : TheTurn ≡ ThreadAt y n maker at → ⊥
    no e = cc

-- nor is it the lock of the tree of shapes
pub thread_not_lock : (plan : Plan) (s : State Slot Holder) (r : Kept plan s) (y : Id) (n maker at : ℕ) → Has r.blocks (ThreadAt y n maker at) → tree_lock ≡ at → ⊥
thread_not_lock plan s r y n maker at here q = no (r.laid.apart tree_lock (LockAt tree_lock) (ThreadAt y n maker at) r.lock here (omega arith, omega arith) (omega (arith, q), omega (arith, q)))
  where
    no : LockAt tree_lock ≡ ThreadAt y n maker at → ⊥
    no e = cc

module _ (plan : Plan) (s : State Slot Holder) (r : Kept plan s) (id : ℕ) (k : Holder) (seat : At s.views id k) (live : k.live ≡ true) (going : k.view.ended ≡ false) (y : Id) (maker at : ℕ) (here : Has r.blocks (ThreadAt y k.view.thread maker at)) where
  abbrev t : ℕ
  t = k.view.thread

  abbrev before : Moment
  before = moment plan s r.run r.lines r.blocks

  stood : ThreadStands before y t maker at
  stood = r.each (ThreadAt y t maker at) here

  goes_on : ended_in r.run t ≡ false
  goes_on = let knew = r.knows id k seat live in ap (λ (l : Log). has_end l.entries) (sym knew.log) ∙ subst (λ b. IsOver b k.view.log) going knew.over

  -- the thread goes on, so it has no end
  no_end : stood.state.end ≡ None
  no_end = by_option stood.state.end refl
    where
      by_option : (o : Option Ending) → stood.state.end ≡ o → o ≡ None
      by_option None is = refl
      by_option (Some how) is =
          let x = found_has r.run.store y (Thread stood.state) stood.thing in
          let over : ended_in r.run stood.state.number ≡ true = each_has (EndsSo r.run.events) r.run.store x.0 r.is_run.ended x.1 stood.state how x.3 is in
          absurd (true≢false (sym over ∙ (ap (ended_in r.run) stood.number_is ∙ goes_on)))

  pub fits : at + 8 ≤ length s.words
  fits = let top = (r.laid.blocks_in (ThreadAt y t maker at) here).0 in let within = r.laid.used_in in omega (arith, top, within)

  -- one of the two words is stored, and then both are these
  pub lay_kept : (i n state result : ℕ) → at + 5 ≤ i → i < at + 7 → get_or (set s.words i n) (state_of at) 0 ≡ state → get_or (set s.words i n) (result_of at) 0 ≡ result
      → Kept plan (whole (set s.words i n) s.homes (set s.views id (with_busy k at (Ends state result))))
  lay_kept i n state result lo hi is_state is_result =
      let b : Block = ThreadAt y t maker at in
      let k' : Holder = with_busy k at (Ends state result) in
      let after : Moment = moment plan (whole (set s.words i n) s.homes (set s.views id k')) r.run r.lines (r.blocks ++ []) in
      quiet_step plan s r s.homes id k k' i n b seat live live refl refl here (omega (arith, lo), omega (arith, hi)) [] record {
        note = note_same k.view k.view refl;
        due = refl;
        late = r.late id k seat live;
        knows_more = λ c h. h;
        knows_in = λ c h. subst (λ bs. Has bs c) (sym (append-nil r.blocks)) (r.known id k c seat h);
        left = λ o h. whole_part k.own o h;
        single = λ x o p h g. r.laid.single x id k o p seat h g;
        counted = omega arith;
        was_own = λ x c h. absurd h;
        bounded = λ c h. absurd h;
        parted = λ x c d h. absurd h;
        doing = λ x far. busy_else at (Ends state result) x k.doing (λ is. true≢false (sym (eq-eqb x at is) ∙ far));
        slot = λ off. refl;
        anew = λ c hc is. subst (Stands after) (sym (alone_at plan s r b here tt (λ h. h) c hc is)) record {
          state = stood.state;
          thing = stood.thing;
          number_is = stood.number_is;
          maker_is = stood.maker_is;
          begun = stood.begun;
          within = stood.within;
          tag = get_or-set_other s.words i at n 0 (λ q. omega (arith, q, lo)) ∙ stood.tag;
          made_by = get_or-set_other s.words i (at + 1) n 0 (λ q. omega (arith, q, lo)) ∙ stood.made_by;
          serial = get_or-set_other s.words i (at + 2) n 0 (λ q. omega (arith, q, lo)) ∙ stood.serial;
          number_word = get_or-set_other s.words i (at + 3) n 0 (λ q. omega (arith, q, lo)) ∙ stood.number_word;
          maker_word = get_or-set_other s.words i (at + 4) n 0 (λ q. omega (arith, q, lo)) ∙ stood.maker_word;
          size = stood.size;
          end = subst (TellsEnd (r.blocks ++ []) (get_or (set s.words i n) (state_of at) 0) (get_or (set s.words i n) (result_of at) 0)) (sym no_end) tt;
          says = each_set (λ j u. u.live ≡ true → SaysEnd after t at u (busy_at at u.doing)) s.views id k'
              (λ _. subst (SaysEnd after t at k') (sym (busy_set at (Ends state result) k.doing)) (λ own. (is_state, is_result)))
              (λ j u ne a l. others_say u (busy_at at u.doing) (λ same. ne (r.apart j id t u k a seat (l, inl same) (live, inl refl))));
        };
        new = λ c h. absurd h;
        no_thing = λ c h. absurd h;
        tree = tree_stays s r id k k' seat live (λ c h. h) (busy_else at (Ends state result) tree_lock k.doing (thread_not_lock plan s r y t maker at here));
        grows = λ c h. absurd h;
        linked = λ shape place h. absurd h;
        once = λ home link to number h. absurd h;
        few = λ home link to number h. absurd h;
        deep = λ shape place h. absurd h;
        shows = λ h e. r.shows id k seat h e;
        shapes_on = λ shape h. h;
        shapes_new = λ shape place h. absurd h;
        homes = λ c h. absurd h;
        one_shape = λ shape place to h. absurd h;
      }
    where
      others_say : (u : Holder) (busy : Busy) → (u.view.thread ≡ t → ⊥) → SaysEnd (moment plan (whole (set s.words i n) s.homes (set s.views id (with_busy k at (Ends state result)))) r.run r.lines (r.blocks ++ [])) t at u busy
      others_say u (Ends a c) other = λ same. absurd (other same)
      others_say u Idle other = tt
      others_say u Locked other = tt
      others_say u (Turned what out) other = tt

-- ---- the steps

-- what is known of the thread is that of its block
of_thread : (plan : Plan) (s : State Slot Holder) (r : Kept plan s) (id at i n maker : ℕ) (y : Id) (k : Holder) (T : Block → Type 0) → At s.views id k → Knows k (ThreadAt y n maker at) → Inside i (ThreadAt y n maker at)
    → T (ThreadAt y n maker at) → (b : Block) → Knows k b → Inside i b → T b
of_thread plan s r id at i n maker y k T seat known inside held b kb ib = subst T (only_block plan s r id i k (ThreadAt y n maker at) b seat known kb inside ib) held

-- the result is laid
pub lays_result : (plan : Plan) (count id at maker n : ℕ) (y : Id) (k : Holder) → k.live ≡ true → k.view.ended ≡ false → Knows k (ThreadAt y k.view.thread maker at) → MayStore LaysResult plan count id k (result_of at) n
lays_result plan count id at maker n y k live going known s r size seat small =
    let state : ℕ = get_or s.words (state_of at) 0 in
    let here = r.known id k (ThreadAt y k.view.thread maker at) seat known in
    let top = fits plan s r id k seat live going y maker at here in (
      with_busy k at (Ends state n),
      keeps,
      tt,
      lay_kept plan s r id k seat live going y maker at here (result_of at) n state n (omega arith) (omega arith) (get_or-set_other s.words (result_of at) (state_of at) n 0 (λ q. omega (arith, q))) (get_or-set_same s.words (result_of at) n 0 (omega (arith, top))),
      (
        refl,
        (λ f. record { live = f.live; size = f.size; opening = f.opening; own = f.own; blocks = f.blocks }),
        of_thread plan s r id at (result_of at) k.view.thread maker y k (λ b. LaysResult b (result_of at) n 0 k n (with_busy k at (Ends state n))) seat known (omega arith, omega arith) (thread_not_turn plan s r y k.view.thread maker at here, (state, refl)),
      ),
    )

-- and then the state
pub lays_state : (plan : Plan) (count id at maker n was result : ℕ) (y : Id) (k : Holder) → k.live ≡ true → k.view.ended ≡ false → Knows k (ThreadAt y k.view.thread maker at) → busy_at at k.doing ≡ Ends was result
    → MayStore LaysState plan count id k (state_of at) n
lays_state plan count id at maker n was result y k live going known busy s r size seat small =
    let here = r.known id k (ThreadAt y k.view.thread maker at) seat known in
    let top = fits plan s r id k seat live going y maker at here in
    let stood : ThreadStands (moment plan s r.run r.lines r.blocks) y k.view.thread maker at = r.each (ThreadAt y k.view.thread maker at) here in
    let said = subst (SaysEnd (moment plan s r.run r.lines r.blocks) k.view.thread at k) busy (stood.says id k seat live) refl in (
      with_busy k at (state_laid n (busy_at at k.doing)),
      keeps,
      tt,
      subst (λ (x : Busy). Kept plan (whole (set s.words (state_of at) n) s.homes (set s.views id (with_busy k at (state_laid n x))))) (sym busy)
          (lay_kept plan s r id k seat live going y maker at here (state_of at) n n result (omega arith) (omega arith) (get_or-set_same s.words (state_of at) n 0 (omega (arith, top))) (get_or-set_other s.words (state_of at) (result_of at) n 0 (λ q. omega (arith, q)) ∙ said.1)),
      (
        refl,
        (λ f. record { live = f.live; size = f.size; opening = f.opening; own = f.own; blocks = f.blocks }),
        of_thread plan s r id at (state_of at) k.view.thread maker y k (λ b. LaysState b (state_of at) n 0 k n (with_busy k at (state_laid n (busy_at at k.doing)))) seat known (omega arith, omega arith) refl,
      ),
    )

-- both are laid
pub both_laid : (k u w : Holder) (at was state result : ℕ) → u ≡ with_busy k at (Ends was result) → w ≡ with_busy u at (state_laid state (busy_at at u.doing)) → w ≡ with_busy k at (Ends state result)
both_laid k u w at was state result one two =
    two ∙ (ap (λ (x : Holder). with_busy x at (state_laid state (busy_at at x.doing))) one
    ∙ (ap (λ b. with_busy (with_busy k at (Ends was result)) at (state_laid state b)) (busy_set at (Ends was result) k.doing)
    ∙ ap (λ ds. record k { doing = ds }) (busy_twice at (Ends was result) (Ends state result) k.doing)))
