-- The turn is given back with the end of a thread that its block tells.
use Rattle.std.proofs.Common.{◌≡◌, ◌≤◌, ◌<◌, ◌⊎◌, ◌||◌, ℕ, ℤ, ◌+◌, Bool, true, false, cond, List, [], ◌∷◌, ◌++◌, flat_map, length, map, set, get_or, Some, None, refl, sym, ap, ◌∙◌, subst, inl, inr, ⊎_elim, arith, append-nil, get_or-set_other, eq-eqb, eqb-true, true≢false}
use Rattle.std.proofs.lemmas.List.{get_or-set_same}
use mathlib.Core.Option.{some}
use Rattle.atomic_table.specs.Table.{State, Me, Allows, gives}
use Rattle.rb_model.specs.declared.call.Call.{Call as Held}
use Rattle.rb_model.specs.declared.call.Call.TheVariants as held
use Rattle.rb_model.specs.declared.value.Id.{Id}
use Rattle.rb_model.specs.Ends.{End as Ending, Value, Raised, Steps, Full, Sink, Memory, told, over}
use Rattle.rb_model.specs.Log.{End, Entry, asked, plain_entry}
use Rattle.rb_model.specs.Things.{Thread}
use Rattle.rb_model.specs.Values.{Value as Val, Nil, False, True, Int, Sym, Str, To}
use Rattle.rb_shared.specs.Lists.{Has, Each}
use Rattle.rb_shared.specs.Step.{ended_item, ended_thing, ids_in}
use Rattle.rb_shared.specs.Store.{Store, is_there}
use Rattle.rb_shared.proofs.Runs.{each_append, has_front, has_behind}
use Rattle.shared_run.specs.Standing.{Fits as FitsStore}
use Rattle.shared_run.specs.Run.{Run, run_after}
use Rattle.shared_run.proofs.Events.{has_either}
use Rattle.shared_run.proofs.Sinking.{stands_silent}
use Rattle.heap_core.specs.Places.{turn_word, tree_lock}
use Rattle.heap_core.specs.Handing.{Plan, Handed, Slot, Homes}
use Rattle.heap_core.specs.Blocks.{Block, ThreadAt, TextAt, BoxAt, TheTurn, IsOfTree, home_of, id_of, number_of, size_of, HasHome, words_of_shapes}
use Rattle.heap_core.specs.Charges.{is_small, blocks_of_all, tally_of}
use Rattle.heap_core.specs.Ending.{ended_by, value_block, end_blocks, own_place, LaidAs, OwnsBlocks, IsOwnThread, IsEndTold, with_end, EndsInTurn}
use Rattle.heap_core.specs.Threads.{ThreadStands, SaysEnd, EndIs, state_of, result_of}
use Rattle.heap_core.specs.View.{Region, Holder, Busy, Idle, Locked, Turned, Ends, Knows, busy_at, words_in, with_busy}
use Rattle.heap_core.specs.Moment.{Moment, At}
use Rattle.heap_core.specs.Passes.{Fits}
use Rattle.heap_core.specs.Turns.{Any, HasTurn, HasNone}
use Rattle.heap_core.specs.Turning.{out_as, with_out, without_turn}
use Rattle.heap_core.specs.Rule.{Stands, Kept, LiesIn, moment}
use Rattle.heap_core.proofs.Absent.{end_fit, ids_fit}
use Rattle.heap_core.proofs.Doings.{busy_set, busy_else}
use Rattle.heap_core.proofs.Ending.{lines_end, numbers_over, seated_end}
use Rattle.heap_core.proofs.Frames.{end_among}
use Rattle.heap_core.proofs.Holders.{each_set}
use Rattle.heap_core.proofs.Finishing.{thread_not_lock, thread_not_turn}
use Rattle.heap_core.proofs.Owes.{whole}
use Rattle.heap_core.proofs.Rooms.{place_inside}
use Rattle.heap_core.proofs.Seats.{alone_at, seated_plain, lies_more}
use Rattle.heap_core.proofs.Steps.{is_home, tree_stays, change_to}
use Rattle.heap_core.proofs.Tallies.{tally_told}
use Rattle.heap_core.proofs.Things.{found_ended, over_now, over_other}
use Rattle.heap_core.proofs.Turning.{Had, had, busy_again, turn_fits}

-- ---- the block of a value

-- a text or a box
abbrev IsStill : Block → Type 0
IsStill b = ((bytes : List ℕ) × (at : ℕ) × (b ≡ TextAt bytes at)) ⊎ ((n : ℤ) × (at : ℕ) × (b ≡ BoxAt n at))

still_thing : (b : Block) → IsStill b → id_of b ≡ None
still_thing b (inl p) = ap id_of p.2
still_thing b (inr p) = ap id_of p.2

still_number : (b : Block) → IsStill b → number_of b ≡ None
still_number b (inl p) = ap number_of p.2
still_number b (inr p) = ap number_of p.2

still_home : (bs : List Block) (b : Block) → IsStill b → HasHome bs b
still_home bs b (inl p) = subst (HasHome bs) (sym p.2) tt
still_home bs b (inr p) = subst (HasHome bs) (sym p.2) tt

still_words : (b : Block) → IsStill b → words_of_shapes (b ∷ []) ≡ 0
still_words b (inl p) = ap (λ (c : Block). words_of_shapes (c ∷ [])) p.2
still_words b (inr p) = ap (λ (c : Block). words_of_shapes (c ∷ [])) p.2

still_apart : (b : Block) → IsStill b → IsOfTree b → ⊥
still_apart b (inl p) t = subst IsOfTree p.2 t
still_apart b (inr p) t = subst IsOfTree p.2 t

-- None, or one that has the words which are charged
abbrev Told : List Block → ℕ → Type 0
Told bs words = ((bs ≡ []) × (words ≡ 0)) ⊎ ((b : Block) × (bs ≡ b ∷ []) × IsStill b × (words ≡ size_of b))

told_value : (v : Val) (p : ℕ) → Told (value_block v p) (blocks_of_all (v ∷ []))
told_value Nil p = inl (refl, refl)
told_value False p = inl (refl, refl)
told_value True p = inl (refl, refl)
told_value (Sym name) p = inl (refl, refl)
told_value (To r) p = inl (refl, refl)
told_value (Str bytes) p = inr (TextAt bytes p, refl, inl (bytes, p, refl), (let z : size_of (TextAt bytes p) + 0 ≡ size_of (TextAt bytes p) = omega arith in z))
told_value (Int n) p = by_test (is_small n)
  where
    by_test : (b : Bool) → Told (cond b [] (BoxAt n p ∷ [])) (cond b 0 2 + 0)
    by_test true = inl (refl, refl)
    by_test false = inr (BoxAt n p, refl, inr (n, p, refl), refl)

told_end : (how : Ending) (p : ℕ) → Told (end_blocks (End how) p) (blocks_of_all (told how))
told_end (Value v) p = told_value v p
told_end (Raised f at) p = inl (refl, refl)
told_end Steps p = inl (refl, refl)
told_end (Full used asked) p = inl (refl, refl)
told_end Sink p = inl (refl, refl)
told_end Memory p = inl (refl, refl)

-- What such blocks are, and what is owned for them.
record Published (k : Holder) (bs : List Block) (words : ℕ) : Type 0 where
  still : (b : Block) → Has bs b → IsStill b
  only : (b c : Block) → Has bs b → Has bs c → b ≡ c
  laid : (b : Block) → Has bs b → (o : Region) × Has k.own o × LaidAs o b
  owned : words_in k.own ≡ words
  shapes : words_of_shapes bs ≡ 0

published : (k : Holder) (bs : List Block) (words : ℕ) → Told bs words → OwnsBlocks k.own bs → Published k bs words
published k bs words (inl none_told) owns =
    let nothing : (b : Block) → Has bs b → ⊥ = λ b h. subst (λ l. Has l b) none_told.0 h in
    let bare : k.own ≡ [] = subst (OwnsBlocks k.own) none_told.0 owns in record {
      still = λ b h. absurd (nothing b h);
      only = λ b c h. absurd (nothing b h);
      laid = λ b h. absurd (nothing b h);
      owned = ap words_in bare ∙ sym none_told.1;
      shapes = ap words_of_shapes none_told.0;
    }
published k bs words (inr one) owns =
    let is : (b : Block) → Has bs b → b ≡ one.0 = λ b h. first b one.0 (subst (λ l. Has l b) one.1 h) in
    let own = subst (OwnsBlocks k.own) one.1 owns in record {
      still = λ b h. subst IsStill (sym (is b h)) one.2;
      only = λ b c h g. is b h ∙ sym (is c g);
      laid = λ b h. (own.1.0, subst (λ os. Has os own.1.0) (sym own.1.1) (inl refl), subst (LaidAs own.1.0) (sym (is b h)) own.1.2);
      owned = ap words_in own.1.1 ∙ (let size = own.1.2.1 in let words = one.3 in omega (arith, size, words));
      shapes = ap words_of_shapes one.1 ∙ still_words one.0 one.2;
    }
  where
    first : (b c : Block) → Has (c ∷ []) b → b ≡ c
    first b c (inl e) = e
    first b c (inr e) = absurd e

-- ---- the end

module _ (plan : Plan) (s : State Slot Holder) (r : Kept plan s) (id : ℕ) (k : Holder) (seat : At s.views id k) (live : k.live ≡ true) (h : Handed) (t : Had plan s r id k seat live h true) where
  abbrev n : ℕ
  n = k.view.thread

  abbrev g : Handed
  g = ended_by n h

  abbrev homes' : Homes
  homes' = set s.homes 0 (some (Some g))

  module _ (step : ℕ) (how : Ending) (y : Id) (maker at state result : ℕ) (known : Knows k (ThreadAt y n maker at)) (busy : busy_at at k.doing ≡ Ends state result) (ahead : k.ahead ≡ 0) (fit : Each (FitsStore r.run.store) (told how))
      (owns : OwnsBlocks k.own (end_blocks (End how) (own_place k.own))) (tells : EndIs (k.blocks ++ end_blocks (End how) (own_place k.own)) state result how) where
    abbrev e : Entry
    e = plain_entry step (End how)

    abbrev bs : List Block
    bs = end_blocks (End how) (own_place k.own)

    abbrev z : Store
    z = r.run.store

    abbrev z' : Store
    z' = map (ended_item n how) z

    abbrev k' : Holder
    k' = with_end (without_turn k) e at

    abbrev run' : Run
    run' = run_after r.run n e z'

    abbrev after : Moment
    after = moment plan (whole (set s.words turn_word 0) homes' (set s.views id k')) run' r.lines (r.blocks ++ bs)

    abbrev block : Block
    block = ThreadAt y n maker at

    here : Has r.blocks block
    here = r.known id k block seat known

    stood : ThreadStands (moment plan s r.run r.lines r.blocks) y n maker at
    stood = r.each block here

    p : Published k bs (blocks_of_all (told how))
    p = published k bs (blocks_of_all (told how)) (told_end how (own_place k.own)) owns

    -- the turn word is none of the thread's
    far : (i : ℕ) → at ≤ i → i < at + 8 → get_or (set s.words turn_word 0) i 0 ≡ get_or s.words i 0
    far i lo hi = get_or-set_other s.words turn_word i 0 0 (λ q. not_turn y n maker at (r.laid.apart i TheTurn block r.turn here (omega (arith, q), omega (arith, q)) (lo, hi)))
      where
        not_turn : (a : Id) (b c d : ℕ) → TheTurn ≡ ThreadAt a b c d → ⊥
        not_turn a b c d q = cc

    said : (get_or s.words (state_of at) 0 ≡ state) × (get_or s.words (result_of at) 0 ≡ result)
    said = subst (SaysEnd (moment plan s r.run r.lines r.blocks) n at k) busy (stood.says id k seat live) refl

    not_home : at ≡ turn_word → ⊥
    not_home = thread_not_turn plan s r y n maker at here

    counts : ((tally_of plan.slots run'.events).words ≡ (tally_of plan.slots r.run.events).words + blocks_of_all (told how)) × ((tally_of plan.slots run'.events).shapes ≡ (tally_of plan.slots r.run.events).shapes) × ((tally_of plan.slots run'.events).sizes ≡ (tally_of plan.slots r.run.events).sizes)
    counts = tally_told plan.slots r.run.events n step how

    -- nothing is in progress at the thread any more
    idle_here : busy_at at k'.doing ≡ Idle
    idle_here = busy_set at Idle (without_turn k).doing

    stands : ThreadStands after y n maker at
    stands = record {
      state = record stood.state { end = Some how };
      thing = found_ended z n how y ∙ (ap (Rattle.std.specs.Prelude.option_map (ended_thing n how)) stood.thing ∙ ap (λ b. Some (Thread (cond b (record stood.state { end = Some how }) stood.state))) (eq-eqb stood.state.number n stood.number_is));
      number_is = stood.number_is;
      maker_is = stood.maker_is;
      begun = stood.begun;
      within = stood.within;
      tag = far at (omega arith) (omega arith) ∙ stood.tag;
      made_by = far (at + 1) (omega arith) (omega arith) ∙ stood.made_by;
      serial = far (at + 2) (omega arith) (omega arith) ∙ stood.serial;
      number_word = far (at + 3) (omega arith) (omega arith) ∙ stood.number_word;
      maker_word = far (at + 4) (omega arith) (omega arith) ∙ stood.maker_word;
      size = ap (λ l. Rattle.heap_core.specs.Sizes.size_of_id l y) counts.2 ∙ stood.size;
      end = subst (λ x. EndIs (r.blocks ++ bs) x (get_or (set s.words turn_word 0) (result_of at) 0) how) (sym (far (state_of at) (omega arith) (omega arith) ∙ said.0))
          (subst (λ x. EndIs (r.blocks ++ bs) state x how) (sym (far (result_of at) (omega arith) (omega arith) ∙ said.1)) (end_among (k.blocks ++ bs) (r.blocks ++ bs) among state result how tells));
      says = each_set (λ j u. u.live ≡ true → SaysEnd after n at u (busy_at at u.doing)) s.views id k' (λ _. subst (SaysEnd after n at k') (sym idle_here) tt)
          (λ j u ne a l. others_say u (busy_at at u.doing) (λ same. ne (r.apart j id n u k a seat (l, inl same) (live, inl refl))));
    }
      where
        among : (c : Block) → Has (k.blocks ++ bs) c → Has (r.blocks ++ bs) c
        among c q = ⊎_elim (λ (old : Has k.blocks c). has_front r.blocks bs c (r.known id k c seat old)) (λ (new : Has bs c). has_behind r.blocks bs c new) (has_either k.blocks bs c q)

        others_say : (u : Holder) (b : Busy) → (u.view.thread ≡ n → ⊥) → SaysEnd after n at u b
        others_say u (Ends a c) other = λ same. absurd (other same)
        others_say u Idle other = tt
        others_say u Locked other = tt
        others_say u (Turned what out) other = tt

    -- a block that came stands where it was laid
    new_stands : (c : Block) → Has bs c → Stands after c
    new_stands c q =
        let o = p.laid c q in
        let low = (r.laid.own_in id k o.0 seat o.1).0 in
        o.2.2 after (λ i lt. get_or-set_other s.words turn_word (o.0.at + i) 0 0 (λ same. omega (arith, same, low)) ∙ r.own i id k o.0 seat o.1 lt)

    abbrev mine : ℕ → Bool
    mine x = is_home TheTurn x || is_home block x

    or_left : (a b : Bool) → a ≡ true → (a || b) ≡ true
    or_left true b q = refl
    or_left false b q = absurd (true≢false (sym q))

    or_right : (a b : Bool) → b ≡ true → (a || b) ≡ true
    or_right true b q = refl
    or_right false b q = q

    or_either : (a b : Bool) → (a || b) ≡ true → (a ≡ true) ⊎ (b ≡ true)
    or_either true b q = inl refl
    or_either false b q = inr q

    neither : (a b : Bool) → (a || b) ≡ false → (a ≡ false) × (b ≡ false)
    neither true b q = absurd (true≢false q)
    neither false b q = (refl, q)

    same_doing : (x : ℕ) → mine x ≡ false → busy_at x k'.doing ≡ busy_at x k.doing
    same_doing x off =
        let q = neither (is_home TheTurn x) (is_home block x) off in
        busy_else at Idle x (without_turn k).doing (λ is. true≢false (sym (eq-eqb x at is) ∙ q.1)) ∙ busy_else turn_word Idle x k.doing (λ is. true≢false (sym (eq-eqb x turn_word is) ∙ q.0))

    tree_same : busy_at tree_lock k'.doing ≡ busy_at tree_lock k.doing
    tree_same = busy_else at Idle tree_lock (without_turn k).doing (thread_not_lock plan s r y n maker at here) ∙ busy_else turn_word Idle tree_lock k.doing (λ is. let z : 16 ≡ 15 = is in omega (arith, z))

    pub told_kept : Kept plan (whole (set s.words turn_word 0) homes' (set s.views id k'))
    told_kept =
        change_to plan s r homes' id k k' turn_word 0 TheTurn seat live live refl refl r.turn (place_inside TheTurn) bs e [] z' record {
          going = t.going;
          may = record { hands = subst (λ w. Each (FitsStore w) (told how)) (sym (append-nil z)) fit; mentions = tt; sized = tt; own = tt; no_threads = tt; next = tt };
          steps = record {
            joins = tt;
            known = each_append (λ (i : Id). is_there (z ++ []) i ≡ true) (flat_map ids_in (told how)) [] (subst (λ w. Each (λ (i : Id). is_there w i ≡ true) (flat_map ids_in (told how))) (sym (append-nil z)) (ids_fit z (told how) fit)) tt;
            ready = refl;
            reply_is = refl;
            store_is = ap (map (ended_item n how)) (sym (append-nil z));
          };
          named = tt;
          view = refl;
          own = refl;
          ahead = refl;
          late = refl;
          front = refl;
          knows_in = λ c q. ⊎_elim (λ (old : Has k.blocks c). has_front r.blocks bs c (r.known id k c seat old)) (λ (new : Has bs c). has_behind r.blocks bs c new) (has_either k.blocks bs c q);
          lie = subst (Each (LiesIn (k.blocks ++ bs))) (sym (append-nil k.view.known)) (lies_more k.blocks (k.blocks ++ bs) (λ c q. has_front k.blocks bs c q) k.view.known (r.lie id k seat live));
          lines = r.lines;
          seated = seated_end plan.slots z n how r.lines (set s.views id k') (seated_plain plan.slots z r.lines s.views id k k' r.seated seat refl refl refl refl);
          charged = let words = counts.0 in let shapes = ap length counts.1 in let owned = p.owned in let no_shapes = p.shapes in omega (arith, words, shapes, owned, no_shapes, ahead);
          starts = omega arith;
          inside_own = λ i c q inside. let o = p.laid c q in let place = o.2.0 in let size = o.2.1 in let lo = inside.0 in let hi = inside.1 in (o.0, o.1, (omega (arith, place, lo), omega (arith, place, size, hi)));
          bounded = λ c q. let o = p.laid c q in let place = o.2.0 in let size = o.2.1 in (o.0, o.1, omega (arith, place, size));
          parted = λ i c d q w _ _. p.only c d q w;
          mine = mine;
          own_home = refl;
          receiver = λ i c q is touched. absurd touched;
          ends = λ c hc _ is. or_right (is_home TheTurn (home_of c)) (is_home block (home_of c)) (eq-eqb (home_of c) at (ap home_of (r.one_thread n c block hc here is refl)));
          doing = same_doing;
          off_turn = λ off. absurd (true≢false off);
          anew = λ c hc is_mine. ⊎_elim
              (λ (q : is_home TheTurn (home_of c) ≡ true). subst (Stands after) (sym (alone_at plan s r TheTurn r.turn tt (λ h. h) c hc (eqb-true (home_of c) turn_word q))) (inl record {
                word = get_or-set_same s.words turn_word 0 0 (turn_fits plan s r id k seat live);
                what = g;
                home = ap (λ (hs : Homes). set hs 0 (some (Some g))) t.home;
                handed = (
                  numbers_over n h.lines ∙ t.handed.0,
                  lines_end r.run run' n h.lines t.handed.1 (over_now r.run.events n e refl) (λ u ne. over_other r.run.events n e u ne) (λ u lt. lt) (λ u lt. lt),
                  stands_silent Any plan.begun r.run.events r.run.refusals n e h.sink t.handed.2 refl,
                  t.handed.3,
                );
                nobody = each_set (λ j u. u.live ≡ true → HasNone u) s.views id k' (λ _. busy_else at Idle turn_word (without_turn k).doing (λ q. not_home (sym q)) ∙ busy_set turn_word Idle k.doing) (λ j u ne a. t.others j u ne a);
              }))
              (λ (q : is_home block (home_of c) ≡ true). subst (Stands after) (sym (alone_at plan s r block here tt (λ h. h) c hc (eqb-true (home_of c) at q))) stands)
              (or_either (is_home TheTurn (home_of c)) (is_home block (home_of c)) is_mine);
          new = new_stands;
          homes = λ c q. still_home (r.blocks ++ bs) c (p.still c q);
          no_tree = λ c q t. still_apart c (p.still c q) t;
          tree = tree_stays s r id k k' seat live (λ c q. has_front k.blocks bs c q) tree_same;
          shapes_on = λ shape q. inr q;
          fresh = λ i c q is. absurd (let gone : None ≡ Some i = sym (still_thing c (p.still c q)) ∙ is in cc);
          one = λ i c d q w _ _. p.only c d q w;
          one_thread = λ number c d q w is _. absurd (let gone : None ≡ Some number = sym (still_number c (p.still c q)) ∙ is in cc);
        }

-- ---- the step

-- what is asked of the pass: it knows its block, laid its end there, and owns the block of the value alone
pub record Leaves (k : Holder) (call : Held) (at state result : ℕ) : Type 0 where
  pub own : IsOwnThread k at
  pub busy : (at ≡ turn_word → ⊥) → busy_at at k.doing ≡ Ends state result
  pub ahead : k.ahead ≡ 0
  pub told : IsEndTold k call state result

ends_at : (plan : Plan) (count id : ℕ) (k : Holder) (h : Handed) (step at state result : ℕ) (call : Held) → k.live ≡ true → HasTurn k h true → Leaves k call at state result
    → Allows (Kept plan) count id (k, (0, Some (ended_by k.view.thread h)) ∷ []) turn_word (λ _. 0) (λ _. EndsInTurn (plain_entry step (asked call)) at (k, (0, Some (ended_by k.view.thread h)) ∷ []))
ends_at plan count id k h step at state result (held.End how) live has l s r size seat small =
    let known = r.known id k (ThreadAt l.own.0 k.view.thread l.own.1 at) seat l.own.2 in (
      with_end (without_turn k) (plain_entry step (End (over how))) at,
      gives,
      tt,
      told_kept plan s r id k seat live h (had plan s r id k seat live h true has) step (over how) l.own.0 l.own.1 at state result l.own.2 (l.busy (thread_not_turn plan s r l.own.0 k.view.thread l.own.1 at known)) l.ahead
          (end_fit r.run.store k.view.known how (r.knows id k seat live).known l.told.0) l.told.1 l.told.2,
      refl,
    )
ends_at plan count id k h step at state result (held.On thing act) live has l s r size seat small = absurd l.told
ends_at plan count id k h step at state result (held.Start thing body values) live has l s r size seat small = absurd l.told
ends_at plan count id k h step at state result (held.Gather thread) live has l s r size seat small = absurd l.told
ends_at plan count id k h step at state result (held.Print bytes) live has l s r size seat small = absurd l.told

-- the step ends the thread
pub ends_in_turn : (plan : Plan) (count id : ℕ) (me : Me Slot Holder) (h : Handed) (step place at state result : ℕ) (call : Held) (e : Entry) → e ≡ plain_entry step (asked call) → place ≡ at
    → me.1 ≡ (0, Some (ended_by me.0.view.thread h)) ∷ [] → me.0.live ≡ true → HasTurn me.0 h true
    → Leaves me.0 call at state result → Allows (Kept plan) count id me turn_word (λ _. 0) (λ _. EndsInTurn e place me)
ends_in_turn plan count id me h step place at state result call e is there carries live has l =
    subst (λ (x : Entry). Allows (Kept plan) count id me turn_word (λ _. 0) (λ _. EndsInTurn x place me)) (sym is)
    (subst (λ (x : ℕ). Allows (Kept plan) count id me turn_word (λ _. 0) (λ _. EndsInTurn (plain_entry step (asked call)) x me)) (sym there)
    (subst (λ (c : List (ℕ × Slot)). Allows (Kept plan) count id (me.0, c) turn_word (λ _. 0) (λ _. EndsInTurn (plain_entry step (asked call)) at (me.0, c))) (sym carries)
    (ends_at plan count id me.0 h step at state result call live has l)))

-- the same is so where the slot was taken
pub leaves_out : (k w : Holder) (call : Held) (at state result : ℕ) → w ≡ with_out k true → IsOwnThread k at → busy_at at k.doing ≡ Ends state result → k.ahead ≡ 0 → IsEndTold k call state result → Leaves w call at state result
leaves_out k w call at state result is own busy ahead told = subst (λ (x : Holder). Leaves x call at state result) (sym is) record {
  own = own;
  busy = λ off. busy_else turn_word (out_as true (busy_at turn_word k.doing)) at k.doing off ∙ busy;
  ahead = ahead;
  told = out_told call told;
}
  where
    out_told : (c : Held) → IsEndTold k c state result → IsEndTold (with_out k true) c state result
    out_told (held.End how) p = p
    out_told (held.On thing act) p = absurd p
    out_told (held.Start thing body values) p = absurd p
    out_told (held.Gather thread) p = absurd p
    out_told (held.Print bytes) p = absurd p

-- what it leaves of a seat, which took the slot before
pub ended_is : (m m' w : Me Slot Holder) (g : Handed) (e f : Entry) (place at : ℕ) → e ≡ f → place ≡ at → m' ≡ (with_out m.0 true, (0, Some g) ∷ []) → EndsInTurn e place m' w → w.0 ≡ with_end (without_turn m.0) f at
ended_is m m' w g e f place at is there put left =
    ap (λ (x : Me Slot Holder). x.0) left ∙ (ap (λ (x : Me Slot Holder). with_end (without_turn x.0) e place) put
    ∙ (ap (λ (x : Holder). with_end x e place) (busy_again m.0 (out_as true (busy_at turn_word m.0.doing)) Idle) ∙ (ap (λ x. with_end (without_turn m.0) x place) is ∙ ap (with_end (without_turn m.0) f) there)))

-- an end may be told where it is laid
pub laid_told : (k : Holder) (call : Held) (at state result : ℕ) → IsEndTold k call state result → IsEndTold (with_busy k at (Ends state result)) call state result
laid_told k (held.End how) at state result p = p
laid_told k (held.On thing act) at state result p = absurd p
laid_told k (held.Start thing body values) at state result p = absurd p
laid_told k (held.Gather thread) at state result p = absurd p
laid_told k (held.Print bytes) at state result p = absurd p

pub seat_is : (m m' : Me Slot Holder) (g : Handed) → m' ≡ (with_out m.0 true, (0, Some g) ∷ []) → m'.0 ≡ with_out m.0 true
seat_is m m' g put = ap (λ (x : Me Slot Holder). x.0) put

-- what the pass owns and can name lies in the heap then
pub told_fits : (k : Holder) (words step at state result : ℕ) (call : Held) → IsEndTold k call state result → Fits k words → Fits (with_end (without_turn k) (plain_entry step (asked call)) at) words
told_fits k words step at state result (held.End how) l f = record {
  live = f.live;
  size = f.size;
  opening = f.opening;
  own = λ o h. absurd h;
  blocks = λ c h. ⊎_elim
      (λ (old : Has k.blocks c). f.blocks c old)
      (λ (new : Has (end_blocks (End (over how)) (own_place k.own)) c).
      let o = (published k (end_blocks (End (over how)) (own_place k.own)) (blocks_of_all (told (over how))) (told_end (over how) (own_place k.own)) l.1).laid c new in
      let top = f.own o.0 o.1 in
      let place = o.2.0 in
      let size = o.2.1 in omega (arith, top, place, size))
      (has_either k.blocks (end_blocks (End (over how)) (own_place k.own)) c h);
}
told_fits k words step at state result (held.On thing act) l f = absurd l
told_fits k words step at state result (held.Start thing body values) l f = absurd l
told_fits k words step at state result (held.Gather thread) l f = absurd l
told_fits k words step at state result (held.Print bytes) l f = absurd l

-- the turn is had still where an end is laid elsewhere
pub still_has : (k w : Holder) (at state result : ℕ) (h : Handed) → w ≡ with_busy k at (Ends state result) → (at ≡ turn_word → ⊥) → HasTurn k h false → HasTurn w h false
still_has k w at state result h is off has = ap (λ (x : Holder). busy_at turn_word x.doing) is ∙ (busy_else at (Ends state result) turn_word k.doing (λ e. off (sym e)) ∙ has)
