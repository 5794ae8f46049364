-- The run with one entry more.
use Rattle.std.proofs.Common.{◌≡◌, ◌≤◌, ◌<◌, ◌+◌, ◌⊎◌, ◌==◌, ℕ, suc, Bool, true, false, cond, ltb, List, [], ◌∷◌, ◌++◌, length, map, Some, None, refl, sym, ap, ◌∙◌, subst, inl, inr, ⊎_elim, arith, append-nil, length-append, ltb-true, ltb-false, eqb-true, add-one}
use Rattle.std.proofs.lemmas.List.{length-map}
use Rattle.rb_model.specs.declared.value.Id.{Id}
use Rattle.rb_model.specs.declared.value.Ref.{Ref}
use Rattle.rb_model.specs.Values.{Value, Reference}
use Rattle.rb_model.specs.Acts.{Act, Join, Reply, Started, handed}
use Rattle.rb_model.specs.Ends.{End as Ending}
use Rattle.rb_model.specs.Things.{Thing, ThreadState, Object, Elements, Pairs, Mutex, Thread, mentioned}
use Rattle.rb_model.specs.Private.{Item}
use Rattle.rb_model.specs.Log.{Call, On, Start, Gather, Print, End, Entry, Refusal, Log, logged, has_end, is_end}
use Rattle.rb_model.specs.Started.{started, started_by, to_thread, thread_id}
use Rattle.rb_shared.specs.Asking.{IsOwnId, HasNextId, ids_moved}
use Rattle.rb_shared.specs.History.{Event, IsNoThread, MovesNoThread, all_started, by}
use Rattle.rb_shared.specs.Lists.{Has, Each}
use Rattle.rb_shared.specs.Step.{Steps, ended_item, ended_thing, new_thread, reply_to}
use Rattle.rb_shared.specs.Store.{Store, found, threads, generation_of, is_full}
use Rattle.rb_shared.specs.View.{View, with_entry, started_number}
use Rattle.rb_shared.proofs.Joins.{act_keeps, thread_is}
use Rattle.rb_shared.proofs.Runs.{each_append, each_more, has_front, has_behind}
use Rattle.shared_run.specs.Standing.{NamesHeld, Fits, MentionIn, IsSized, AreSized, values_in_call}
use Rattle.shared_run.specs.Run.{Run, IsRun, IsThread, Knows, MayEnter, WasMade, ComesFrom, EndsSo, IsOver, IsTold, IsDue, run_after, event_of, opened}
use Rattle.shared_run.proofs.Values.{behind_mentions, ended_mentions}
use Rattle.shared_run.proofs.Sizes.{behind_sized, ended_sized}
use Rattle.shared_run.proofs.Behind.{Asks, behind_each, fits_more, fits_behind, sort_more, sort_behind}
use Rattle.shared_run.proofs.Makers.{makers, makers_count, makers_moved, makers_behind, made_by, generation_same, generation_old, generation_new}
use Rattle.shared_run.proofs.Events.{by_append, by_own, by_other, by_nobody, started_append, started_more, all_started_more, Starts, StartsNone, starts, starts_one, has_end_front, has_end_last, no_end_more, ends_once, ids_append, ids_more, leads_on, begun_more, refused_opened, refused_past}
use Rattle.shared_run.proofs.Knowing.{Grows, told_on, begun_on}

-- ---- lists

each_of : {X : Type 0} (Q : X → Type 0) (xs : List X) → ((x : X) → Has xs x → Q x) → Each Q xs
each_of Q [] f = tt
each_of Q (x ∷ xs) f = (f x (inl refl), each_of Q xs (λ y h. f y (inr h)))

has_map : {X Y : Type 0} (f : X → Y) (xs : List X) (x : X) → Has xs x → Has (map f xs) (f x)
has_map f [] x h = absurd h
has_map f (y ∷ xs) x (inl e) = inl (ap f e)
has_map f (y ∷ xs) x (inr h) = inr (has_map f xs x h)

has_each : {X : Type 0} (Q : X → Type 0) (xs : List X) (x : X) → Each Q xs → Has xs x → Q x
has_each Q [] x q h = absurd h
has_each Q (y ∷ xs) x (q, qs) (inl e) = subst Q (sym e) q
has_each Q (y ∷ xs) x (q, qs) (inr h) = has_each Q xs x qs h

opened_count : (rs : List (List Refusal)) (ps : List (ℕ × Reference)) → (ps ≡ []) ⊎ ((p : ℕ × Reference) × (ps ≡ p ∷ [])) → length (opened rs ps) ≡ length rs + length ps
opened_count rs ps (inl e) = subst (λ qs. length (opened rs qs) ≡ length rs + length qs) (sym e) (omega arith)
opened_count rs ps (inr p) = subst (λ qs. length (opened rs qs) ≡ length rs + length qs) (sym p.1) (let l = length-append rs ([] ∷ []) in omega (arith, l))

asks_hands : (Q : Value → Type 0) (c : Call) (id : Id) (act : Act) → Asks c id act → Each Q (values_in_call c) → Each Q (handed act)
asks_hands Q (On r a) id act asks q = subst (λ b. Each Q (handed b)) asks.1 q
asks_hands Q (Gather r) id act asks q = subst (λ b. Each Q (handed b)) asks.1 tt
asks_hands Q (Start thing body values) id act asks q = absurd asks
asks_hands Q (Print bytes) id act asks q = absurd asks
asks_hands Q (End how) id act asks q = absurd asks

-- the end of thread t
ended_so : (events : List Event) (t : ℕ) (how : Ending) (x : Item) → has_end (by t events) ≡ true → EndsSo events x → EndsSo events (ended_item t how x)
ended_so events t how x over so = by_thing x.thing refl
  where
    of_thread : (o : ThreadState) (b : Bool) → (o.number == t) ≡ b → x.thing ≡ Thread o → EndsSo events (record { id = x.id; thing = Thread (cond b (record o { end = Some how }) o) })
    of_thread o true n is s h e end =
        let same = thread_is (record o { end = Some how }) s e in
        let number : s.number ≡ t = ap (λ (y : ThreadState). y.number) (sym same) ∙ eqb-true o.number t n in
        ap (λ m. has_end (by m events)) number ∙ over
    of_thread o false n is s h e end =
        let same = thread_is o s e in
        ap (λ (y : ThreadState). has_end (by y.number events)) (sym same) ∙ so o h is (ap (λ (y : ThreadState). y.end) same ∙ end)

    by_thing : (thing : Thing) → x.thing ≡ thing → EndsSo events (record { id = x.id; thing = ended_thing t how thing })
    by_thing (Thread o) is s h e end = of_thread o (o.number == t) refl is s h e end
    by_thing (Mutex None) is s h e end = absurd (cc)
    by_thing (Mutex (Some owner)) is s h e end = absurd (cc)
    by_thing (Object class fields) is s h e end = absurd (cc)
    by_thing (Elements vs) is s h e end = absurd (cc)
    by_thing (Pairs ps) is s h e end = absurd (cc)

-- ---- one entry more

module _ (slots : ℕ) (run : Run) (v : View) (e : Entry) (z' : Store) (r : IsRun slots run) (k : Knows slots run v) (may : MayEnter v run.store e) (st : Steps slots run.store v.thread e z') where
  abbrev w : Store
  w = run.store ++ e.moved

  abbrev pub new : Run
  new = run_after run v.thread e z'

  abbrev ps : List (ℕ × Reference)
  ps = started_by e.call e.reply

  abbrev which : Type 0
  which = StartsNone e.call e.reply ⊎ Starts slots w v.thread e.call e.reply

  which_is : which
  which_is = starts slots w v.thread e.call e.reply st.reply_is

  ps_are : (ps ≡ []) ⊎ ((p : ℕ × Reference) × (ps ≡ p ∷ []))
  ps_are = ⊎_elim (λ (s : StartsNone e.call e.reply). inl s.0) (λ (s : Starts slots w v.thread e.call e.reply). inr ((suc (length (threads w)), to_thread s.0), starts_one slots w v.thread e.call e.reply s)) which_is

  -- ---- counts

  makers_now : makers z' ≡ makers run.store ++ made_by v.thread ps
  makers_now =
      ap makers st.store_is
      ∙ (makers_behind slots w v.thread e.call
      ∙ (ap (λ q. makers w ++ made_by v.thread (started_by e.call q)) (sym st.reply_is) ∙ ap (λ l. l ++ made_by v.thread ps) (makers_moved run.store e.moved may.no_threads)))

  threads_w : length (threads w) ≡ length (threads run.store)
  threads_w = sym (makers_count w) ∙ (ap length (makers_moved run.store e.moved may.no_threads) ∙ makers_count run.store)

  threads_now : length (threads z') ≡ length (threads run.store) + length ps
  threads_now =
      let a = makers_count z' in let b = makers_count run.store in let c = ap length makers_now in
      let d = length-append (makers run.store) (made_by v.thread ps) in let f = length-map ps (λ (p : ℕ × Reference). v.thread) in
      omega (arith, a, b, c, d, f)

  refusals_now : length new.refusals ≡ length run.refusals + length ps
  refusals_now = opened_count run.refusals ps ps_are

  counted_now : length new.refusals ≡ suc (length (threads z'))
  counted_now = let a = refusals_now in let b = threads_now in let c = r.counted in omega (arith, a, b, c)

  started_now : length (all_started new.events) ≡ length (threads z')
  started_now =
      let a = ap length (all_started_more v.thread e run.events) in let b = length-append (all_started run.events) ps in let c = r.started in let d = threads_now in
      omega (arith, a, b, c, d)

  more_now : length run.refusals ≤ length new.refusals
  more_now = let a = refusals_now in omega (arith, a)

  -- ---- logs

  by_now : (n : ℕ) → by n new.events ≡ by n run.events ++ by n (event_of v.thread e ∷ [])
  by_now n = by_append n run.events (event_of v.thread e ∷ [])

  started_front : (n : ℕ) (p : ℕ × Reference) → Has (started (by n run.events)) p → Has (started (by n new.events)) p
  started_front n p h = subst (λ l. Has l p) (sym (ap started (by_now n) ∙ started_append (by n run.events) (by n (event_of v.thread e ∷ []))))
      (has_front (started (by n run.events)) (started (by n (event_of v.thread e ∷ []))) p h)

  started_own : started (by v.thread new.events) ≡ started (by v.thread run.events) ++ ps
  started_own = ap started (by_own v.thread e run.events) ∙ started_more (by v.thread run.events) e

  all_front : (p : ℕ × Reference) → Has (all_started run.events) p → Has (all_started new.events) p
  all_front p h = subst (λ l. Has l p) (sym (all_started_more v.thread e run.events)) (has_front (all_started run.events) ps p h)

  ends_front : (n : ℕ) → has_end (by n run.events) ≡ true → has_end (by n new.events) ≡ true
  ends_front n h = ap has_end (by_now n) ∙ has_end_front (by n run.events) (by n (event_of v.thread e ∷ [])) h

  within_now : Each (λ (x : Event). IsThread new x.thread) new.events
  within_now =
      each_append (λ (x : Event). IsThread new x.thread) run.events (event_of v.thread e ∷ [])
      (each_more (λ (x : Event). IsThread run x.thread) (λ (x : Event). IsThread new x.thread) (λ x lt. let le = more_now in omega (arith, lt, le)) run.events r.within)
      (let lt = k.within in let le = more_now in omega (arith, lt, le), tt)

  -- the number and the thread of a thread that was started just now
  new_number : (s : Starts slots w v.thread e.call e.reply) → suc (length (threads w)) ≡ length run.refusals
  new_number s = let a = threads_w in let b = r.counted in omega (arith, a, b)

  made_now : (n : ℕ) → 0 < n → IsThread new n → WasMade new.events n
  made_now n pos lt = by_test (ltb n (length run.refusals)) refl
    where
      last : (length run.refusals ≤ n) → which → WasMade new.events n
      last le (inl s) = absurd (let a = refusals_now in let b = ap length s.0 in omega (arith, a, b, lt, le))
      last le (inr s) =
          let one = starts_one slots w v.thread e.call e.reply s in
          let is : suc (length (threads w)) ≡ n = (let a = refusals_now in let b = ap length one in let c = new_number s in omega (arith, a, b, c, lt, le)) in
          let own = k.within in let c = new_number s in (
            v.thread,
            to_thread s.0,
            omega (arith, own, c, is),
            subst (λ l. Has l (n, to_thread s.0)) (sym started_own)
                (has_behind (started (by v.thread run.events)) ps (n, to_thread s.0) (subst (λ l. Has l (n, to_thread s.0)) (sym one) (inl (ap (λ m. (m, to_thread s.0)) (sym is))))),
          )

      by_test : (b : Bool) → ltb n (length run.refusals) ≡ b → WasMade new.events n
      by_test true is = let m = r.made n pos (ltb-true n (length run.refusals) is) in (m.0, m.1, m.2, started_front m.0 (n, m.1) m.3)
      by_test false is = last (ltb-false n (length run.refusals) is) which_is

  -- ---- where the things come from

  from_front : (x : Item) → ComesFrom run.events x → ComesFrom new.events x
  from_front x (inl g) = inl g
  from_front x (inr (inl m)) = inr (inl (
    m.0,
    subst (λ l. Has l x.id) (sym (ap ids_moved (by_now x.id.thread) ∙ ids_append (by x.id.thread run.events) (by x.id.thread (event_of v.thread e ∷ []))))
        (has_front (ids_moved (by x.id.thread run.events)) (ids_moved (by x.id.thread (event_of v.thread e ∷ []))) x.id m.1),
  ))
  from_front x (inr (inr s)) = inr (inr (
    s.0,
    s.1,
    s.2,
    (let a = ap length (ap started (by_now s.0) ∙ started_append (by s.0 run.events) (by s.0 (event_of v.thread e ∷ []))) in
        let b = length-append (started (by s.0 run.events)) (started (by s.0 (event_of v.thread e ∷ []))) in
        let c = s.3 in omega (arith, a, b, c)),
  ))

  from_moved : (x : Item) → Has e.moved x → ComesFrom new.events x
  from_moved x h =
      let own = has_each (λ (y : Item). IsOwnId v.thread y.id) e.moved x may.own h in
      inr (inl (
        own.2,
        subst (λ l. Has (ids_moved l) x.id) (sym (ap (λ n. by n new.events) own.0 ∙ by_own v.thread e run.events))
            (ids_more (by v.thread run.events) e x.id (has_map (λ (y : Item). y.id) e.moved x h)),
      ))

  from_new : (id : Id) (body : ℕ) (values : List Value) → e.call ≡ Start id body values → is_full slots w v.thread ≡ false → ComesFrom new.events (new_thread w v.thread id)
  from_new id body values is open_ =
      let next : id ≡ thread_id v.thread (length (started (by v.thread run.events))) =
      subst (HasNextId v) is may.next ∙ ap (λ (l : Log). thread_id v.thread (length (started l.entries))) k.log in
      inr (inr (
        v.thread,
        length (started (by v.thread run.events)),
        next,
        ⊎_elim
            (λ (s : StartsNone e.call e.reply). absurd (none s.0))
            (λ (s : Starts slots w v.thread e.call e.reply).
            let a = ap length started_own in let b = length-append (started (by v.thread run.events)) ps in let c = ap length (starts_one slots w v.thread e.call e.reply s) in omega (arith, a, b, c))
            which_is,
      ))
    where
      one_is : (b : Bool) → b ≡ false → started_by (Start id body values) (cond b (Rattle.rb_model.specs.Acts.Failed Rattle.rb_model.specs.declared.fault.Fault.TheVariants.ThreadLimit) (Started (suc (length (threads w))) (to_thread id))) ≡ [] → ⊥
      one_is true h p = absurd (cc)
      one_is false h p = cc

      none : ps ≡ [] → ⊥
      none p = one_is (is_full slots w v.thread) open_ (sym (ap (λ c. started_by c e.reply) is ∙ ap (started_by (Start id body values)) (st.reply_is ∙ ap (reply_to slots w v.thread) is)) ∙ p)

  from_now : Each (ComesFrom new.events) z'
  from_now = subst (Each (ComesFrom new.events)) (sym st.store_is) (behind_each (ComesFrom new.events) slots w v.thread e.call
      (λ y id thing act asks f is q. q)
      from_new
      (λ how is x q. q)
      (each_append (ComesFrom new.events) run.store e.moved (each_more (ComesFrom run.events) (ComesFrom new.events) from_front run.store r.from) (each_of (ComesFrom new.events) e.moved from_moved)))

  -- ---- ends

  ended_now : Each (EndsSo new.events) z'
  ended_now = subst (Each (EndsSo new.events)) (sym st.store_is) (behind_each (EndsSo new.events) slots w v.thread e.call
      (λ y id thing act asks f is q s how eq end.
      let o = act_keeps v.thread thing act s eq in ap (λ n. has_end (by n new.events)) o.2 ∙ q o.0 how (is ∙ o.1) (sym o.3 ∙ end))
      (λ id body values is open_ s how eq end.
      let same = thread_is (record { number = suc (length (threads w)); maker = v.thread; gathered = false; end = None }) s eq in
      absurd (let h : None ≡ Some how = ap (λ (y : ThreadState). y.end) same ∙ end in cc))
      (λ how is x q. ended_so new.events v.thread how x (ap has_end (by_own v.thread e run.events) ∙ has_end_last (by v.thread run.events) e (ap is_end is)) q)
      (each_append (EndsSo new.events) run.store e.moved
      (each_more (EndsSo run.events) (EndsSo new.events) (λ x q s how eq end. ends_front s.number (q s how eq end)) run.store r.ended)
      (each_more (λ (x : Item). IsNoThread x.thing) (EndsSo new.events) (λ x q s how eq end. absurd (q s eq)) e.moved may.no_threads)))

  -- ---- what is mentioned

  up : (x : Value) → Fits w x → Fits z' x
  up x f = subst (λ s. Fits s x) (sym st.store_is) (fits_behind slots w v.thread e.call x f)

  abbrev Mentions : Item → Type 0
  Mentions x = Each (Fits z') (mentioned x.thing)

  lifted : (xs : List Item) → MentionIn w xs → Each Mentions xs
  lifted xs m = each_more (λ (x : Item). Each (Fits w) (mentioned x.thing)) Mentions (λ x f. each_more (Fits w) (Fits z') up (mentioned x.thing) f) xs m

  hands_now : Each (Fits z') (values_in_call e.call)
  hands_now = each_more (Fits w) (Fits z') up (values_in_call e.call) may.hands

  truth_fits : (b : Bool) → Fits z' (Rattle.rb_model.specs.Values.truth b)
  truth_fits true = tt
  truth_fits false = tt

  mentions_now : MentionIn z' z'
  mentions_now = subst (Each Mentions) (sym st.store_is) (behind_each Mentions slots w v.thread e.call
      (λ y id thing act asks f is q. behind_mentions (Fits z') truth_fits tt (λ n. tt) v.thread thing act (subst (λ x. Each (Fits z') (mentioned x)) is q) (asks_hands (Fits z') e.call id act asks hands_now))
      (λ id body values is open_. tt)
      (λ how is x q. ended_mentions (Fits z') truth_fits tt (λ n. tt) v.thread how x.thing q (subst (λ c. Each (Fits z') (values_in_call c)) is hands_now))
      (each_append Mentions run.store e.moved
      (lifted run.store (each_more (λ (x : Item). Each (Fits run.store) (mentioned x.thing)) (λ (x : Item). Each (Fits w) (mentioned x.thing))
      (λ x f. each_more (Fits run.store) (Fits w) (fits_more run.store e.moved) (mentioned x.thing) f) run.store r.mentions))
      (lifted e.moved may.mentions)))

  sized_now : AreSized z'
  sized_now = subst AreSized (sym st.store_is) (behind_each (λ (x : Item). IsSized x.thing) slots w v.thread e.call
      (λ y id thing act asks f is q. behind_sized v.thread thing act (subst IsSized is q))
      (λ id body values is open_. tt)
      (λ how is x q. ended_sized v.thread how x.thing q)
      (each_append (λ (x : Item). IsSized x.thing) run.store e.moved r.sized may.sized))

  -- ---- the run

  pub run_on : IsRun slots new
  run_on = record {
    leads = leads_on slots run.events Rattle.rb_shared.specs.Store.opening run.store z' v.thread e r.leads st;
    counted = counted_now;
    started = started_now;
    begun = begun_more [] run.events (event_of v.thread e) r.begun k.begun;
    within = within_now;
    made = made_now;
    unmoved = each_append MovesNoThread run.events (event_of v.thread e ∷ []) r.unmoved (may.no_threads, tt);
    from = from_now;
    ended = ended_now;
    mentions = mentions_now;
    sized = sized_now;
  }

  -- ---- what others know

  generation_on : (n : ℕ) → IsThread run n → generation_of z' n ≡ generation_of run.store n
  generation_on n lt = by_which which_is
    where
      by_which : which → generation_of z' n ≡ generation_of run.store n
      by_which (inl s) = generation_same run.store z' n (makers_now ∙ (ap (λ l. makers run.store ++ made_by v.thread l) s.0 ∙ append-nil (makers run.store)))
      by_which (inr s) =
          generation_old run.store z' n v.thread (makers_now ∙ ap (λ l. makers run.store ++ made_by v.thread l) (starts_one slots w v.thread e.call e.reply s)) (let a = r.counted in omega (arith, lt, a))

  pub entry_grows : Grows run new v.thread
  entry_grows = record {
    more = more_now;
    started = all_front;
    generation = generation_on;
    logs = λ n lt other i. record { entries = by_other v.thread n e run.events other i; refusals = refused_opened run.refusals ps n i };
    names = λ x f. subst (λ s. NamesHeld s x) (sym st.store_is)
        (sort_behind slots w v.thread e.call x.id x.sort (sort_more run.store e.moved x.id x.sort f));
    own = (e ∷ [], by_own v.thread e run.events);
  }

  -- ---- what the pass itself knows

  open_log : v.ended ≡ false → has_end v.log.entries ≡ false
  open_log going = subst (λ b. IsOver b v.log) going k.over

  pub unended : v.ended ≡ false → has_end (by v.thread run.events) ≡ false
  unended going = ap (λ (l : Log). has_end l.entries) (sym k.log) ∙ open_log going

  over_now : v.ended ≡ false → (b : Bool) → is_end e.call ≡ b → IsOver b (logged v.log e)
  over_now going true is = ends_once v.log.entries e (open_log going) is
  over_now going false is = no_end_more v.log.entries e (open_log going) is

  due_now : (n : ℕ) (refs : List Ref) → started_number e.reply ≡ Some n → IsDue new (with_entry v e refs) n
  due_now n refs is = by_which which_is
    where
      number : (a b : ℕ) → Some a ≡ Some b → a ≡ b
      number a b h = cc

      by_which : which → IsDue new (with_entry v e refs) n
      by_which (inl s) = absurd (let h : None ≡ Some n = sym s.1 ∙ is in cc)
      by_which (inr s) =
          let one = starts_one slots w v.thread e.call e.reply s in
          let n_is : suc (length (threads w)) ≡ n = number (suc (length (threads w))) n (sym (ap started_number s.4) ∙ is) in
          let last = new_number s in
          let n_last : n ≡ length run.refusals = sym n_is ∙ last in
          let lt = k.within in
          let apart : n ≡ v.thread → ⊥ = (λ same. omega (arith, n_last, lt, same)) in
          let n_gen : n ≡ suc (length (threads run.store)) = (let c = r.counted in omega (arith, n_last, c)) in (
            (let a = refusals_now in let b = ap length one in omega (arith, a, b, n_last)),
            inr (
              to_thread s.0,
              subst (λ l. Has l (n, to_thread s.0)) (sym (all_started_more v.thread e run.events))
                  (has_behind (all_started run.events) ps (n, to_thread s.0) (subst (λ l. Has l (n, to_thread s.0)) (sym one) (inl (ap (λ m. (m, to_thread s.0)) (sym n_is))))),
            ),
            ap (generation_of z') n_gen
                ∙ (generation_new run.store z' v.thread (makers_now ∙ ap (λ l. makers run.store ++ made_by v.thread l) one) ∙ (ap suc (sym k.generation) ∙ sym (add-one v.generation))),
            (λ i. record {
              entries = (by_other v.thread n e run.events apart ∙ by_nobody (length run.refusals) n run.events r.within (omega (arith, n_last))) i;
              refusals = (refused_opened run.refusals ps n ∙ refused_past run.refusals n (omega (arith, n_last))) i;
            }),
            apart,
          )

  pub entry_knows : (refs : List Ref) → v.ended ≡ false → Each (NamesHeld z') refs → Knows slots new (with_entry v e refs)
  entry_knows refs going named = record {
    same_slots = k.same_slots;
    within = let lt = k.within in let le = more_now in omega (arith, lt, le);
    begun = begun_on run new v.thread v.thread entry_grows k.begun;
    generation = k.generation ∙ sym (generation_on v.thread k.within);
    log = λ i. record {
      entries = (ap (λ (l : Log). l.entries ++ e ∷ []) k.log ∙ sym (by_own v.thread e run.events)) i;
      refusals = (ap (λ (l : Log). l.refusals) k.log ∙ sym (refused_opened run.refusals ps v.thread)) i;
    };
    over = over_now going (is_end e.call) refl;
    known = each_append (NamesHeld z') v.known refs (each_more (NamesHeld run.store) (NamesHeld z') entry_grows.names v.known k.known) named;
    told = each_more (IsTold run) (IsTold new) (told_on run new v.thread entry_grows (unended going)) v.told k.told;
    due = λ n is. due_now n refs is;
  }

  -- the number of a thread that was started just now is nobody's
  pub new_is_past : (n : ℕ) → started_number e.reply ≡ Some n → n ≡ length run.refusals
  new_is_past n is = by_which which_is
    where
      number : (a b : ℕ) → Some a ≡ Some b → a ≡ b
      number a b h = cc

      by_which : which → n ≡ length run.refusals
      by_which (inl s) = absurd (let h : None ≡ Some n = sym s.1 ∙ is in cc)
      by_which (inr s) = sym (number (suc (length (threads w))) n (sym (ap started_number s.4) ∙ is)) ∙ new_number s
