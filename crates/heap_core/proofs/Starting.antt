-- The start of a thread keeps the law, and so does one that finds no line.
use Rattle.std.proofs.Common.{◌≡◌, ◌≤◌, ◌<◌, ◌||◌, ◌-◌, ℕ, suc, ◌+◌, Bool, true, false, cond, leb, is_none, flat_map, List, [], ◌∷◌, ◌++◌, length, map, set, get_or, position, Option, Some, None, refl, sym, ap, ◌∙◌, subst, inl, inr, ⊎_elim, arith, append-nil, length-append, get_or-set_other, eqb-true, true≢false}
use Rattle.std.proofs.lemmas.List.{get_or-set_same, set-get_or}
use mathlib.Core.Option.{some}
use mathlib.Core.Logic.{dite}
use native.Mathlib.Decide.{ℕ_discrete}
use lib.ListN.{get_elem?}
use Rattle.atomic_table.specs.Table.{State, Me, Allows, gives, keeps}
use Rattle.atomic_table.proofs.Lists.{set_again}
use Rattle.rb_model.specs.declared.fault.Fault.TheVariants.{ThreadLimit}
use Rattle.rb_model.specs.declared.value.Id.{Id}
use Rattle.rb_model.specs.declared.value.Ref.{Ref}
use Rattle.rb_model.specs.declared.value.Sort.TheVariants as sort
use Rattle.rb_model.specs.declared.value.Value.{Value}
use Rattle.rb_model.specs.declared.call.Call.{Call as Held}
use Rattle.rb_model.specs.declared.call.Call.TheVariants as held
use Rattle.rb_model.specs.Acts.{Failed, Started}
use Rattle.rb_model.specs.Log.{Call, Start, Entry, Log, asked}
use Rattle.rb_model.specs.Moving.{refs_in_all}
use Rattle.rb_model.specs.Started.{started, next_thread, thread_id, to_thread}
use Rattle.rb_model.specs.Things.{Thread}
use Rattle.rb_model.specs.Values.{Value as Val, plain}
use Rattle.rb_model.specs.declared.act.Reply.TheVariants as reply
use Rattle.rb_shared.specs.Lists.{Has, Each}
use Rattle.rb_shared.specs.Step.{new_thread, ids_in}
use Rattle.rb_shared.specs.Store.{Store, found, is_there, threads, ungathered_count, is_full}
use Rattle.rb_shared.proofs.Runs.{each_append, has_front, has_behind, same_self}
use Rattle.shared_run.specs.Standing.{Fits, NamesHeld}
use Rattle.shared_run.specs.Run.{Run, IsThread, run_after}
use Rattle.shared_run.specs.Run as runs
use Rattle.shared_run.proofs.Events.{by_nobody, has_either}
use Rattle.shared_run.proofs.Sinking.{stands_silent}
use Rattle.heap_core.specs.declared.line.Line.{Line}
use Rattle.heap_core.specs.Places.{turn_word, tree_lock, opening_words}
use Rattle.heap_core.specs.Handing.{Plan, Handed, Slot, Homes, numbers}
use Rattle.heap_core.specs.Blocks.{Block, ThreadAt, TheTurn, home_of, Inside, IsOfTree, place_of, size_of, ShapeAt, number_of}
use Rattle.heap_core.specs.Charges.{tally_of}
use Rattle.heap_core.specs.Owning.{bare_entry}
use Rattle.heap_core.specs.Room.{Asking}
use Rattle.heap_core.specs.Sizes.{size_of_id}
use Rattle.heap_core.specs.Starting.{is_free, IsStart, NamesNew, StartReplies, line_for, going_line, started_on, TableSeen, SeesTable, Born, born_of, thread_row, LaidFor, with_born, StartsInTurn}
use Rattle.heap_core.specs.Threads.{SaysEnd, ThreadStands}
use Rattle.heap_core.specs.View.{Region, Holder, Busy, Idle, Locked, Turned, Ends, InOwn, words_in, held, busy_at, with_own, with_region}
use Rattle.heap_core.specs.Moment.{Moment, At, ended_in}
use Rattle.heap_core.specs.Turns.{Any, LinesTell, HasTurn, HasNone}
use Rattle.heap_core.specs.Turning.{MakesInTurn, IsBare, out_as, with_out, with_plain, without_turn}
use Rattle.heap_core.specs.Rule.{Stands, Seated, Kept, LiesIn, taken_count, moment}
use Rattle.heap_core.proofs.Absent.{size_absent, start_absent, found_past, ids_fit, known_fit}
use Rattle.heap_core.proofs.Doings.{busy_set}
use Rattle.heap_core.proofs.Frames.{lines_on}
use Rattle.heap_core.proofs.Holders.{each_set}
use Rattle.heap_core.proofs.Lines.{numbers_long, position_free, position_within, position_full, line_free, numbers_set, set_has, set_either, set_keeps, at_line}
use Rattle.heap_core.proofs.Owes.{whole}
use Rattle.heap_core.proofs.Printing.{else_same}
use Rattle.heap_core.proofs.Rooms.{place_inside}
use Rattle.heap_core.proofs.Seating.{seated_start}
use Rattle.heap_core.proofs.Seats.{alone_at, seated_plain, lies_more, nobody_claims, numbered}
use Rattle.heap_core.proofs.Steps.{is_home, tree_stays, change_to}
use Rattle.heap_core.proofs.Tallies.{tally_start, tally_full}
use Rattle.heap_core.proofs.Things.{over_same}
use Rattle.heap_core.proofs.Turning.{Had, had, busy_again, turn_fits}

or_true : (b : Bool) → (b || true) ≡ true
or_true true = refl
or_true false = refl

or_false : (b : Bool) → (b || false) ≡ b
or_false true = refl
or_false false = refl

-- ---- what the table says

module _ (plan : Plan) (s : State Slot Holder) (r : Kept plan s) (id : ℕ) (k : Holder) (seat : At s.views id k) (live : k.live ≡ true) (h : Handed) (out : Bool) (t : Had plan s r id k seat live h out) where
  pub count_is : length (threads r.run.store) ≡ h.started
  count_is = let all = t.handed.3 in let counted = r.is_run.counted in omega (arith, all, counted)

  lines_long : length h.lines ≡ plan.slots
  lines_long = sym (numbers_long h.lines) ∙ (ap length t.handed.0 ∙ r.seated.long)

  -- a thread can be started where there is a line for it
  pub full_is : is_full plan.slots r.run.store k.view.thread ≡ is_none (line_for k.view.generation h.lines)
  full_is =
      ap (λ g. leb (plan.slots - 1) (ungathered_count r.run.store) || leb (plan.slots - 1) g) (sym (r.knows id k seat live).generation)
      ∙ (by_test (leb (plan.slots - 1) k.view.generation) ∙ sym (ap (λ n. is_none (cond (leb (n - 1) k.view.generation) None (position is_free h.lines))) lines_long))
    where
      few : is_none (position is_free h.lines) ≡ leb (plan.slots - 1) (ungathered_count r.run.store)
      few = position_full h.lines (ungathered_count r.run.store) (ap taken_count t.handed.0 ∙ r.seated.count) ∙ ap (λ n. leb (n - 1) (ungathered_count r.run.store)) lines_long

      by_test : (b : Bool) → (leb (plan.slots - 1) (ungathered_count r.run.store) || b) ≡ is_none (cond b None (position is_free h.lines))
      by_test true = or_true (leb (plan.slots - 1) (ungathered_count r.run.store))
      by_test false = or_false (leb (plan.slots - 1) (ungathered_count r.run.store)) ∙ sym few

  pub table_seen : TableSeen k h
  table_seen =
      let knew = r.knows id k seat live in record {
        run = r.run;
        is_run = subst (λ m. runs.IsRun m r.run) (sym knew.same_slots) r.is_run;
        knows = subst (λ m. runs.Knows m r.run k.view) (sym knew.same_slots) knew;
        started = count_is;
        full = ap (λ m. is_full m r.run.store k.view.thread) knew.same_slots ∙ full_is;
        few = let all = t.handed.3 in let took = r.begun in let top = r.laid.used_in in let size = r.laid.size id k seat live in omega (arith, all, took, top, size);
      }

sees_at : (plan : Plan) (count id : ℕ) (k : Holder) → k.live ≡ true → Allows (Kept plan) count id (k, []) turn_word (λ n. n) (λ _. SeesTable (k, []))
sees_at plan count id k live s r size seat small = (
  k,
  keeps,
  tt,
  subst (λ ws. Kept plan (whole ws s.homes (set s.views id k))) (sym (set-get_or s.words turn_word 0)) (subst (λ vs. Kept plan (whole s.words s.homes vs)) (sym (set_again s.views id k seat)) r),
  ((λ h has. table_seen plan s r id k seat live h false (had plan s r id k seat live h false has)), refl),
)

-- the table is looked at
pub sees_table : (plan : Plan) (count id : ℕ) (me : Me Slot Holder) → me.1 ≡ [] → me.0.live ≡ true → Allows (Kept plan) count id me turn_word (λ n. n) (λ _. SeesTable me)
sees_table plan count id me carries live = subst (λ (c : List (ℕ × Slot)). Allows (Kept plan) count id (me.0, c) turn_word (λ n. n) (λ _. SeesTable (me.0, c))) (sym carries) (sees_at plan count id me.0 live)

-- ---- the start

module _ (plan : Plan) (s : State Slot Holder) (r : Kept plan s) (id : ℕ) (k : Holder) (seat : At s.views id k) (live : k.live ≡ true) (h : Handed) (t : Had plan s r id k seat live h true) where
  abbrev n : ℕ
  n = suc h.started

  none_own : (x : ℕ) → IsBare k → held k ≡ 0
  none_own x bare = let words = ap words_in bare.0 in let ahead = bare.1 in omega (arith, words, ahead)

  -- ---- where there is no line

  abbrev no_line_entry : ℕ → Id → ℕ → List Val → Entry
  no_line_entry step y body values = bare_entry step (Start y body values) (Failed ThreadLimit)

  pub full_kept : (step : ℕ) (y : Id) (body : ℕ) (values : List Val) → IsBare k → y ≡ next_thread k.view.thread k.view.log → Each (Fits r.run.store) values → line_for k.view.generation h.lines ≡ None
      → Kept plan (whole (set s.words turn_word 0) (set s.homes 0 (some (Some h))) (set s.views id (without_turn (with_plain k (no_line_entry step y body values)))))
  full_kept step y body values bare next fit no_line =
      let e : Entry = no_line_entry step y body values in
      let z : Store = r.run.store in
      let k' : Holder = without_turn (with_plain k e) in
      let run' : Run = run_after r.run k.view.thread e z in
      let homes' : Homes = set s.homes 0 (some (Some h)) in
      let counts = tally_full plan.slots r.run.events k.view.thread step y body values in
      let nothing = none_own 0 bare in
      let full : is_full plan.slots (z ++ []) k.view.thread ≡ true = ap (λ x. is_full plan.slots x k.view.thread) (append-nil z) ∙ (full_is plan s r id k seat live h true t ∙ ap is_none no_line) in
      change_to plan s r homes' id k k' turn_word 0 TheTurn seat live live refl refl r.turn (place_inside TheTurn) [] e [] z record {
        going = t.going;
        may = record { hands = subst (λ x. Each (Fits x) values) (sym (append-nil z)) fit; mentions = tt; sized = tt; own = tt; no_threads = tt; next = next };
        steps = record {
          joins = tt;
          known = each_append (λ (i : Id). is_there (z ++ []) i ≡ true) (flat_map ids_in values) [] (subst (λ x. Each (λ (i : Id). is_there x i ≡ true) (flat_map ids_in values)) (sym (append-nil z)) (ids_fit z values fit)) tt;
          ready = refl;
          reply_is = sym (ap (λ b. cond b (Failed ThreadLimit) (Started (suc (length (threads (z ++ [])))) (to_thread y))) full);
          store_is = sym (ap (λ b. cond b (z ++ []) ((z ++ []) ++ new_thread (z ++ []) k.view.thread y ∷ [])) full ∙ append-nil z);
        };
        named = tt;
        view = refl;
        own = bare.0;
        ahead = bare.1;
        late = refl;
        front = refl;
        knows_in = λ c q. subst (λ bs. Has bs c) (sym (append-nil r.blocks)) (r.known id k c seat q);
        lie = subst (Each (LiesIn k.blocks)) (sym (append-nil k.view.known)) (r.lie id k seat live);
        lines = r.lines;
        seated = seated_plain plan.slots z r.lines s.views id k k' r.seated seat refl refl refl refl;
        charged = let words = counts.0 in let shapes = ap length counts.1 in omega (arith, words, shapes, nothing);
        starts = omega arith;
        inside_own = λ x c q. absurd q;
        bounded = λ c q. absurd q;
        parted = λ x c d q. absurd q;
        mine = is_home TheTurn;
        own_home = refl;
        receiver = λ i c q is touched. absurd touched;
        ends = λ c hc q. absurd (true≢false (sym q));
        doing = λ x far. else_same x k far;
        off_turn = λ off. absurd (true≢false off);
        anew = λ c hc mine. subst (Stands (moment plan (whole (set s.words turn_word 0) homes' (set s.views id k')) run' r.lines (r.blocks ++ [])))
            (sym (alone_at plan s r TheTurn r.turn tt (λ h. h) c hc (eqb-true (home_of c) turn_word mine))) (inl record {
              word = get_or-set_same s.words turn_word 0 0 (turn_fits plan s r id k seat live);
              what = h;
              home = ap (λ (hs : Homes). set hs 0 (some (Some h))) t.home;
              handed = (
                t.handed.0,
                lines_on (moment plan s r.run r.lines r.blocks) (moment plan (whole (set s.words turn_word 0) homes' (set s.views id k')) run' r.lines (r.blocks ++ [])) h.lines (λ u. over_same r.run.events k.view.thread e refl u) (λ u lt. lt) (λ u lt. lt) t.handed.1,
                stands_silent Any plan.begun r.run.events r.run.refusals k.view.thread e h.sink t.handed.2 refl,
                t.handed.3,
              );
              nobody = each_set (λ j u. u.live ≡ true → HasNone u) s.views id k' (λ _. busy_set turn_word Idle k.doing) (λ j u ne a. t.others j u ne a);
            });
        new = λ c q. absurd q;
        homes = λ c q. absurd q;
        no_tree = λ c q. absurd q;
        tree = tree_stays s r id k k' seat live (λ c q. q) (else_same tree_lock k refl);
        shapes_on = λ shape q. inr q;
        fresh = λ i c q. absurd q;
        one = λ i c d q. absurd q;
        one_thread = λ number c d q. absurd q;
      }

  -- ---- where there is one

  module _ (step : ℕ) (y : Id) (body : ℕ) (values : List Val) (at line : ℕ) (next : y ≡ next_thread k.view.thread k.view.log) (fit : Each (Fits r.run.store) values) (line_is : line_for k.view.generation h.lines ≡ Some line) where
    abbrev x : Ref
    x = record { sort = sort.Thread; id = y; at = at }

    abbrev b : Born
    b = born_of step (Start y body values) h.started x line

    abbrev e : Entry
    e = b.entry

    abbrev z : Store
    z = r.run.store

    abbrev z' : Store
    z' = z ++ new_thread z k.view.thread y ∷ []

    abbrev block : Block
    block = ThreadAt y n k.view.thread at

    abbrev g : Handed
    g = started_on line h

    abbrev homes' : Homes
    homes' = set s.homes 0 (some (Some g))

    abbrev k' : Holder
    k' = without_turn (with_born k b)

    abbrev run' : Run
    run' = run_after r.run k.view.thread e z'

    abbrev lines' : List (Option ℕ)
    lines' = set r.lines line (Some n)

    abbrev after : Moment
    after = moment plan (whole (set s.words turn_word 0) homes' (set s.views id k')) run' lines' (r.blocks ++ block ∷ [])

    counted : length (threads z) ≡ h.started
    counted = count_is plan s r id k seat live h true t

    absent : found z y ≡ None
    absent = start_absent plan.slots r.run k.view.thread y r.is_run (next ∙ ap (λ (l : Log). thread_id k.view.thread (length (started l.entries))) (r.knows id k seat live).log)

    is_line : position is_free h.lines ≡ Some line
    is_line = line_free k.view.generation h.lines line line_is

    free_here : get_elem? (numbers h.lines) line ≡ some None
    free_here = position_free h.lines line is_line

    free_in : get_elem? r.lines line ≡ some None
    free_in = ap (λ (ls : List (Option ℕ)). get_elem? ls line) (sym t.handed.0) ∙ free_here

    -- no thread has the number yet
    nobody : (m : ℕ) → IsThread r.run m → m ≡ n → ⊥
    nobody m lt is = let all = t.handed.3 in omega (arith, lt, is, all)

    no_line : (i : ℕ) → get_elem? r.lines i ≡ some (Some (suc (length (threads z)))) → ⊥
    no_line i is =
        let p = at_line h.lines i (suc (length (threads z))) (ap (λ (ls : List (Option ℕ)). get_elem? ls i) t.handed.0 ∙ is) in
        nobody p.0.number (t.handed.1.known p.0 p.1) (p.2 ∙ ap suc counted)

    open_ : is_full plan.slots (z ++ []) k.view.thread ≡ false
    open_ = ap (λ w. is_full plan.slots w k.view.thread) (append-nil z) ∙ (full_is plan s r id k seat live h true t ∙ ap is_none line_is)

    more_threads : (m : ℕ) → IsThread r.run m → IsThread run' m
    more_threads m lt = let long = length-append r.run.refusals ([] ∷ []) in omega (arith, lt, long)

    not_over : ended_in run' n ≡ false
    not_over = over_same r.run.events k.view.thread e refl n ∙ ap Rattle.rb_model.specs.Log.has_end (by_nobody (length r.run.refusals) n r.run.events r.is_run.within (let all = t.handed.3 in omega (arith, all)))

    tells : LinesTell run' g.lines
    tells = record {
      known = λ l q. ⊎_elim
          (λ (new : Some l ≡ Some (going_line n)). subst (IsThread run') (ap (λ (m : Line). m.number) (sym (line_eq l (going_line n) new))) (let long = length-append r.run.refusals ([] ∷ []) in let all = t.handed.3 in omega (arith, long, all)))
          (λ (old : Has h.lines (Some l)). more_threads l.number (t.handed.1.known l old))
          (set_either h.lines line (Some (going_line n)) (Some l) q);
      over = λ l q. ⊎_elim
          (λ (new : Some l ≡ Some (going_line n)). let same = line_eq l (going_line n) new in ap (λ (m : Line). m.over) same ∙ sym (ap (λ (m : Line). ended_in run' m.number) same ∙ not_over))
          (λ (old : Has h.lines (Some l)). t.handed.1.over l old ∙ sym (over_same r.run.events k.view.thread e refl l.number))
          (set_either h.lines line (Some (going_line n)) (Some l) q);
      all = λ m lt going. dite (ℕ_discrete m n)
          (λ is. (going_line n, set_has h.lines line (Some (going_line n)) (position_within h.lines line is_line), sym is))
          (λ ne.
          let long = length-append r.run.refusals ([] ∷ []) in
          let count = t.handed.3 in
          let p = t.handed.1.all m (omega (arith, lt, ne, long, count)) (sym (over_same r.run.events k.view.thread e refl m) ∙ going) in
          (p.0, set_keeps h.lines line (Some (going_line n)) p.0 free_here p.1, p.2));
    }
      where
        line_eq : (a c : Line) → Some a ≡ Some c → a ≡ c
        line_eq a c q = cc

    module _ (laid : LaidFor k b) where
      abbrev own : Region
      own = record { at = at; words = thread_row k.view.thread b }

      has_own : Has k.own own
      has_own = subst (λ os. Has os own) (sym laid.0) (inl refl)

      low : opening_words ≤ at
      low = (r.laid.own_in id k own seat has_own).0

      -- its words stand in the heap
      row : (i m : ℕ) → i < 8 → get_or own.words i 0 ≡ m → get_or (set s.words turn_word 0) (at + i) 0 ≡ m
      row i m lt is = get_or-set_other s.words turn_word (at + i) 0 0 (λ q. let far = low in omega (arith, q, far)) ∙ (r.own i id k own seat has_own lt ∙ is)

      first : get_or (set s.words turn_word 0) at 0 ≡ 5
      first = ap (λ i. get_or (set s.words turn_word 0) i 0) (let q : at ≡ at + 0 = omega arith in q) ∙ row 0 5 (omega arith) refl

      found_new : found z' y ≡ Some (Thread (record { number = suc (length (threads z)); maker = k.view.thread; gathered = false; end = None }))
      found_new = found_past z (new_thread z k.view.thread y ∷ []) y absent ∙ ap (λ c. cond c (Some (new_thread z k.view.thread y).thing) None) (same_self y y refl)

      counts : ((tally_of plan.slots run'.events).words ≡ (tally_of plan.slots r.run.events).words + 8) × ((tally_of plan.slots run'.events).shapes ≡ (tally_of plan.slots r.run.events).shapes) × ((tally_of plan.slots run'.events).sizes ≡ (tally_of plan.slots r.run.events).sizes)
      counts = tally_start plan.slots r.run.events k.view.thread step y body values n

      stands : ThreadStands after y n k.view.thread at
      stands = record {
        state = record { number = suc (length (threads z)); maker = k.view.thread; gathered = false; end = None };
        thing = found_new;
        number_is = ap suc counted;
        maker_is = refl;
        begun = omega arith;
        within = let long = length-append r.run.refusals ([] ∷ []) in let all = t.handed.3 in omega (arith, long, all);
        tag = first;
        made_by = row 1 y.thread (omega arith) refl;
        serial = row 2 y.serial (omega arith) refl;
        number_word = row 3 n (omega arith) refl;
        maker_word = row 4 k.view.thread (omega arith) refl;
        size = ap (λ l. size_of_id l y) counts.2 ∙ size_absent plan.slots r.run.events z y r.is_run.leads absent;
        end = tt;
        says = each_set (λ j u. u.live ≡ true → SaysEnd after n at u (busy_at at u.doing)) s.views id k' (λ l. nobody_says k' (busy_at at k'.doing) (λ is. nobody_claims plan s r n last id k seat (live, inl is)))
            (λ j u _ a l. nobody_says u (busy_at at u.doing) (λ is. nobody_claims plan s r n last j u a (l, inl is)));
      }
        where
          last : n ≡ length r.run.refusals
          last = sym t.handed.3

          nobody_says : (u : Holder) (busy : Busy) → (u.view.thread ≡ n → ⊥) → SaysEnd after n at u busy
          nobody_says u (Ends state result) not_mine = λ mine. absurd (not_mine mine)
          nobody_says u Idle not_mine = tt
          nobody_says u Locked not_mine = tt
          nobody_says u (Turned what out) not_mine = tt

      only : (c : Block) → Has (block ∷ []) c → c ≡ block
      only c (inl q) = q
      only c (inr q) = absurd q

      in_own : (i : ℕ) (c : Block) → Has (block ∷ []) c → Inside i c → InOwn i k
      in_own i c q inside = (own, has_own, subst (Inside i) (only c q) inside)

      pub start_kept : Kept plan (whole (set s.words turn_word 0) homes' (set s.views id k'))
      start_kept =
          let words_held : held k ≡ 8 = let words = ap words_in laid.0 in let ahead = laid.1 in omega (arith, words, ahead) in
          change_to plan s r homes' id k k' turn_word 0 TheTurn seat live live refl refl r.turn (place_inside TheTurn) (block ∷ []) e (x ∷ []) z' record {
            going = t.going;
            may = record { hands = subst (λ w. Each (Fits w) values) (sym (append-nil z)) fit; mentions = tt; sized = tt; own = tt; no_threads = tt; next = next };
            steps = record {
              joins = tt;
              known = each_append (λ (i : Id). is_there (z ++ []) i ≡ true) (flat_map ids_in values) [] (subst (λ w. Each (λ (i : Id). is_there w i ≡ true) (flat_map ids_in values)) (sym (append-nil z)) (ids_fit z values fit)) tt;
              ready = refl;
              reply_is = sym (ap (λ c. cond c (Failed ThreadLimit) (Started (suc (length (threads (z ++ [])))) (to_thread y))) open_ ∙ ap (λ m. Started (suc m) (to_thread y)) (ap (λ w. length (threads w)) (append-nil z) ∙ counted));
              store_is = sym (ap (λ c. cond c (z ++ []) ((z ++ []) ++ new_thread (z ++ []) k.view.thread y ∷ [])) open_ ∙ ap (λ w. w ++ new_thread w k.view.thread y ∷ []) (append-nil z));
            };
            named = (ap (Rattle.std.specs.Prelude.option_map Rattle.shared_run.specs.Standing.sort_in) found_new, tt);
            view = refl;
            own = refl;
            ahead = refl;
            late = refl;
            front = refl;
            knows_in = λ c q. ⊎_elim (λ (old : Has k.blocks c). has_front r.blocks (block ∷ []) c (r.known id k c seat old)) (λ (new : Has (block ∷ []) c). has_behind r.blocks (block ∷ []) c new) (has_either k.blocks (block ∷ []) c q);
            lie = each_append (LiesIn (k.blocks ++ block ∷ [])) k.view.known (x ∷ [])
                (lies_more k.blocks (k.blocks ++ block ∷ []) (λ c q. has_front k.blocks (block ∷ []) c q) k.view.known (r.lie id k seat live))
                ((block, has_behind k.blocks (block ∷ []) block (inl refl), refl, refl), tt);
            lines = lines';
            seated = subst (λ m. Seated plan.slots z' (set r.lines line (Some m)) (set s.views id k')) (ap suc counted)
                (seated_start plan.slots z r.lines s.views id k k' y line r.seated seat free_in no_line refl refl refl (ap (λ m. Some (suc m)) (sym counted)) refl);
            charged = let words = counts.0 in let shapes = ap length counts.1 in omega (arith, words, shapes, words_held);
            starts = omega (arith, words_held);
            inside_own = λ i c q inside. in_own i c q inside;
            bounded = λ c q. (own, has_own, subst (λ (d : Block). place_of d + size_of d ≤ at + 8) (sym (only c q)) (omega arith));
            parted = λ i c d q p _ _. only c q ∙ sym (only d p);
            mine = is_home TheTurn;
            own_home = refl;
            receiver = λ i c q is touched. absurd touched;
            ends = λ c hc q. absurd (true≢false (sym q));
            doing = λ i far. else_same i k far;
            off_turn = λ off. absurd (true≢false off);
            anew = λ c hc mine. subst (Stands after) (sym (alone_at plan s r TheTurn r.turn tt (λ h. h) c hc (eqb-true (home_of c) turn_word mine))) (inl record {
              word = get_or-set_same s.words turn_word 0 0 (turn_fits plan s r id k seat live);
              what = g;
              home = ap (λ (hs : Homes). set hs 0 (some (Some g))) t.home;
              handed = (
                numbers_set h.lines line (going_line n) ∙ ap (λ (ls : List (Option ℕ)). set ls line (Some n)) t.handed.0,
                tells,
                stands_silent Any plan.begun r.run.events r.run.refusals k.view.thread e h.sink t.handed.2 refl,
                (let long = length-append r.run.refusals ([] ∷ []) in let all = t.handed.3 in omega (arith, long, all)),
              );
              nobody = each_set (λ j u. u.live ≡ true → HasNone u) s.views id k' (λ _. busy_set turn_word Idle k.doing) (λ j u ne a. t.others j u ne a);
            });
            new = λ c q. subst (Stands after) (sym (only c q)) stands;
            homes = λ c q. subst (Rattle.heap_core.specs.Blocks.HasHome (r.blocks ++ block ∷ [])) (sym (only c q)) tt;
            no_tree = λ c q of_tree. subst IsOfTree (only c q) of_tree;
            tree = tree_stays s r id k k' seat live (λ c q. has_front k.blocks (block ∷ []) c q) (else_same tree_lock k refl);
            shapes_on = λ shape q. inr q;
            fresh = λ i c q is. ap (found z) (sym (id_is y i (ap Rattle.heap_core.specs.Blocks.id_of (sym (only c q)) ∙ is))) ∙ absent;
            one = λ i c d q p _ _. only c q ∙ sym (only d p);
            one_thread = λ number c d q p is also. ⊎_elim
                (λ (old : Has r.blocks d). absurd (nobody number (numbered plan s r d number old also).1 (number_eq number n (sym is ∙ ap number_of (only c q)))))
                (λ (new : Has (block ∷ []) d). only c q ∙ sym (only d new))
                (has_either r.blocks (block ∷ []) d p);
          }
        where
          number_eq : (a c : ℕ) → Some a ≡ Some c → a ≡ c
          number_eq a c q = cc

          id_is : (a c : Id) → Some a ≡ Some c → a ≡ c
          id_is a c q = cc

-- ---- the steps

-- a call that starts a thread, as the law has it
record StartOf (v : Rattle.rb_shared.specs.View.View) (c : Call) : Type 0 where
  id : Id
  body : ℕ
  values : List Value
  is : c ≡ Start id body (map plain values)
  next : id ≡ next_thread v.thread v.log
  known : Each (λ (r : Ref). Has v.known r) (refs_in_all values)

abbrev start_of : (v : Rattle.rb_shared.specs.View.View) (call : Held) → IsStart v call → StartOf v (asked call)
start_of v (held.Start id body values) is = record { id = id; body = body; values = values.items; is = refl; next = is.0; known = is.1 }
start_of v (held.On thing act) is = absurd is
start_of v (held.Gather thread) is = absurd is
start_of v (held.Print bytes) is = absurd is
start_of v (held.End how) is = absurd is

fulls_at : (plan : Plan) (count id : ℕ) (k : Holder) (h : Handed) (step : ℕ) (c : Call) → StartOf k.view c → k.live ≡ true → HasTurn k h true → IsBare k → line_for k.view.generation h.lines ≡ None
    → Allows (Kept plan) count id (k, (0, Some h) ∷ []) turn_word (λ _. 0) (λ _. MakesInTurn (bare_entry step c (Failed ThreadLimit)) (k, (0, Some h) ∷ []))
fulls_at plan count id k h step c of live has bare no_line s r size seat small = (
  without_turn (with_plain k (bare_entry step c (Failed ThreadLimit))),
  gives,
  tt,
  subst (λ (d : Call). Kept plan (whole (set s.words turn_word 0) (set s.homes 0 (some (Some h))) (set s.views id (without_turn (with_plain k (bare_entry step d (Failed ThreadLimit))))))) (sym of.is)
      (full_kept plan s r id k seat live h (had plan s r id k seat live h true has) step of.id of.body (map plain of.values) bare of.next (known_fit r.run.store k.view.known of.values (r.knows id k seat live).known of.known) no_line),
  refl,
)

-- the step makes the entry of a start that finds no line
pub fulls_in_turn : (plan : Plan) (count id : ℕ) (me : Me Slot Holder) (h : Handed) (step : ℕ) (call : Held) (e : Entry) → IsStart me.0.view call → e ≡ bare_entry step (asked call) (Failed ThreadLimit) → me.1 ≡ (0, Some h) ∷ []
    → me.0.live ≡ true → HasTurn me.0 h true → IsBare me.0
    → line_for me.0.view.generation h.lines ≡ None → Allows (Kept plan) count id me turn_word (λ _. 0) (λ _. MakesInTurn e me)
fulls_in_turn plan count id me h step call e start is carries live has bare no_line =
    subst (λ (x : Entry). Allows (Kept plan) count id me turn_word (λ _. 0) (λ _. MakesInTurn x me)) (sym is)
    (subst (λ (l : List (ℕ × Slot)). Allows (Kept plan) count id (me.0, l) turn_word (λ _. 0) (λ _. MakesInTurn (bare_entry step (asked call) (Failed ThreadLimit)) (me.0, l))) (sym carries)
    (fulls_at plan count id me.0 h step (asked call) (start_of me.0.view call start) live has bare no_line))

abbrev new_ref : Id → ℕ → Ref
new_ref id at = record { sort = sort.Thread; id = id; at = at }

starts_at : (plan : Plan) (count id : ℕ) (k : Holder) (h : Handed) (step at line : ℕ) (c : Call) → (of : StartOf k.view c) → k.live ≡ true → HasTurn k h true → LaidFor k (born_of step c h.started (new_ref of.id at) line)
    → line_for k.view.generation h.lines ≡ Some line
    → Allows (Kept plan) count id (k, (0, Some (started_on line h)) ∷ []) turn_word (λ _. 0) (λ _. StartsInTurn (born_of step c h.started (new_ref of.id at) line) (k, (0, Some (started_on line h)) ∷ []))
starts_at plan count id k h step at line c of live has laid line_is s r size seat small = (
  without_turn (with_born k (born_of step c h.started (new_ref of.id at) line)),
  gives,
  tt,
  subst (λ (d : Call). Kept plan (whole (set s.words turn_word 0) (set s.homes 0 (some (Some (started_on line h)))) (set s.views id (without_turn (with_born k (born_of step d h.started (new_ref of.id at) line)))))) (sym of.is)
      (start_kept plan s r id k seat live h (had plan s r id k seat live h true has) step of.id of.body (map plain of.values) at line of.next (known_fit r.run.store k.view.known of.values (r.knows id k seat live).known of.known) line_is laid),
  refl,
)

-- the reference is to the thread that is started
names_new : (v : Rattle.rb_shared.specs.View.View) (thread : Ref) (call : Held) → (is : IsStart v call) → NamesNew thread call → thread ≡ new_ref (start_of v call is).id thread.at
names_new v thread (held.Start id body values) is named = λ i. record { sort = named.0 i; id = named.1 i; at = thread.at }
names_new v thread (held.On thing act) is named = absurd is
names_new v thread (held.Gather gathered) is named = absurd is
names_new v thread (held.Print bytes) is named = absurd is
names_new v thread (held.End how) is named = absurd is

-- the words are laid for it, whether the slot is out or at home
pub laid_back : (k w : Holder) (b : Born) → w.own ≡ k.own → w.ahead ≡ k.ahead → w.view.thread ≡ k.view.thread → LaidFor k b → LaidFor w b
laid_back k w b own ahead thread laid = (own ∙ (laid.0 ∙ ap (λ (maker : ℕ). record { at = b.thread.at; words = thread_row maker b } ∷ []) (sym thread)), ahead ∙ laid.1)

-- the step starts this thread
pub starts_in_turn : (plan : Plan) (count id : ℕ) (me : Me Slot Holder) (h g : Handed) (step line : ℕ) (thread : Ref) (call : Held) (b : Born) → IsStart me.0.view call → NamesNew thread call
    → b ≡ born_of step (asked call) h.started thread line → me.1 ≡ (0, Some g) ∷ [] → g ≡ started_on line h
    → me.0.live ≡ true → HasTurn me.0 h true → LaidFor me.0 (born_of step (asked call) h.started thread line) → line_for me.0.view.generation h.lines ≡ Some line → Allows (Kept plan) count id me turn_word (λ _. 0) (λ _. StartsInTurn b me)
starts_in_turn plan count id me h g step line thread call b start named is carries started live has laid line_is =
    let same : thread ≡ new_ref (start_of me.0.view call start).id thread.at = names_new me.0.view thread call start named in
    subst (λ (x : Born). Allows (Kept plan) count id me turn_word (λ _. 0) (λ _. StartsInTurn x me)) (sym (is ∙ ap (λ (x : Ref). born_of step (asked call) h.started x line) same))
    (subst (λ (l : List (ℕ × Slot)). Allows (Kept plan) count id (me.0, l) turn_word (λ _. 0) (λ _. StartsInTurn (born_of step (asked call) h.started (new_ref (start_of me.0.view call start).id thread.at) line) (me.0, l))) (sym (carries ∙ ap (λ x. (0, Some x) ∷ []) started))
    (starts_at plan count id me.0 h step thread.at line (asked call) (start_of me.0.view call start) live has (subst (λ (x : Ref). LaidFor me.0 (born_of step (asked call) h.started x line)) same laid) line_is))

-- what it leaves of a seat, which took the slot before
pub started_is : (m m' w : Me Slot Holder) (g : Handed) (b c : Born) → b ≡ c → m' ≡ (with_out m.0 true, (0, Some g) ∷ []) → StartsInTurn b m' w → w.0 ≡ without_turn (with_born m.0 c)
started_is m m' w g b c is put left =
    ap (λ (x : Me Slot Holder). x.0) left ∙ (ap (λ (x : Me Slot Holder). without_turn (with_born x.0 b)) put
    ∙ (busy_again (with_born m.0 b) (out_as true (busy_at turn_word m.0.doing)) Idle ∙ ap (λ x. without_turn (with_born m.0 x)) is))

-- ---- what is answered

-- no line, and no thread can be started
pub full_replies : (a : Asking) (step generation : ℕ) (id : Id) (k w u : Holder) (h : Handed) → TableSeen k h → generation ≡ k.view.generation → line_for generation h.lines ≡ None → w ≡ k
    → u ≡ without_turn (with_plain w (bare_entry step a.call (Failed ThreadLimit)))
    → StartReplies a step id (reply.Failed ThreadLimit) k u
full_replies a step generation id k w u h seen same none_left looked made = (
  refl,
  (seen.run, seen.is_run, seen.knows, seen.full ∙ ap is_none (ap (λ n. line_for n h.lines) (sym same) ∙ none_left)),
  made ∙ ap (λ (y : Holder). without_turn (with_plain y (bare_entry step a.call (Failed ThreadLimit)))) looked,
)

-- a line, and the thread is started
pub start_replies : (a : Asking) (step generation number line : ℕ) (id : Id) (k w v l u : Holder) (h : Handed) (at : ℕ) (ws laid : List ℕ) → TableSeen k h → generation ≡ k.view.generation → line_for generation h.lines ≡ Some line
    → number ≡ h.started + 1 → w ≡ k → v ≡ with_region w at ws → l ≡ with_own v at laid
    → u ≡ without_turn (with_born l (born_of step a.call h.started (new_ref id at) line)) → StartReplies a step id (reply.Started number (new_ref id at)) k u
start_replies a step generation number line id k w v l u h at ws laid seen same line_is next looked took lays made = (
  refl,
  refl,
  (
    h.started,
    (seen.run, seen.is_run, seen.knows, seen.full ∙ ap is_none (ap (λ n. line_for n h.lines) (sym same) ∙ line_is), sym seen.started),
    seen.few,
    next ∙ (let z : h.started + 1 ≡ suc h.started = omega arith in z),
    (line, made ∙ ap (λ (y : Holder). without_turn (with_born y (born_of step a.call h.started (new_ref id at) line))) (lays ∙ ap (λ (y : Holder). with_own y at laid) (took ∙ ap (λ (y : Holder). with_region y at ws) looked))),
  ),
)
