-- The run with a read put in at its point.
use Rattle.std.proofs.Common.{◌≡◌, ◌<◌, ℕ, Bool, true, false, ◌||◌, eqb, eqb-true, eq-eqb, List, [], ◌∷◌, ◌++◌, length, map, Some, None, refl, sym, ap, ◌∙◌, subst, inl, inr, ⊎_elim, arith, append-nil, true≢false}
use Rattle.std.proofs.lemmas.List.{append_assoc, map-append}
use Rattle.rb_model.specs.declared.value.Id.{Id}
use Rattle.rb_model.specs.declared.value.Ref.{Ref}
use Rattle.rb_model.specs.Values.{Reference}
use Rattle.rb_model.specs.Private.{Item}
use Rattle.rb_model.specs.Log.{Call, On, Start, Gather, Print, End, Entry, Log, logged, has_end, is_end}
use Rattle.rb_model.specs.Started.{started, started_by}
use Rattle.rb_shared.specs.Asking.{ids_moved}
use Rattle.rb_shared.specs.History.{Event, Leads, IsBegun, IsNoThread, MovesNoThread, all_started, by, is_read}
use Rattle.rb_shared.specs.Lists.{Has, Each}
use Rattle.rb_shared.specs.Store.{Store, opening}
use Rattle.rb_shared.specs.View.{View, with_entry}
use Rattle.rb_shared.proofs.Runs.{each_append, each_front, each_behind, each_more, leads_split}
use Rattle.shared_run.specs.Standing.{NamesHeld}
use Rattle.shared_run.specs.Run.{Run, IsRun, IsThread, Knows, AreBegun, ComesFrom, EndsSo, IsOver, IsTold, log_of, event_of, run_read, MayRead}
use Rattle.shared_run.proofs.Events.{by_append, by_own, by_other, started_append, starts, StartsNone, Starts, has_end_append, no_end_more, ids_append}
use Rattle.shared_run.proofs.Knowing.{Grows, begun_on, told_on}

-- ---- what a read is not

read_not_start : (c : Call) (id : Id) (body : ℕ) (values : List Rattle.rb_model.specs.Values.Value) → is_read c ≡ true → c ≡ Start id body values → ⊥
read_not_start c id body values reads is = true≢false (sym reads ∙ ap is_read is)

pub read_not_end : (c : Call) → is_read c ≡ true → is_end c ≡ false
read_not_end (On thing act) e = refl
read_not_end (Start id body values) e = refl
read_not_end (Gather r) e = refl
read_not_end (Print bytes) e = refl
read_not_end (End how) e = absurd (true≢false (sym e))

-- ---- the plain steps are one

pub leads_one : (slots : ℕ) (z a b : Store) (es : List Event) → Leads slots z es a → Leads slots z es b → a ≡ b
leads_one slots z a b [] l m = l ∙ sym m
leads_one slots z a b (e ∷ es) (y, s, l) (y', s', m) =
    let same : y' ≡ y = s'.store_is ∙ sym s.store_is in
    leads_one slots y a b es l (subst (λ x. Leads slots x es b) same m)

pub leads_join : (slots : ℕ) (z y z' : Store) (xs ys : List Event) → Leads slots z xs y → Leads slots y ys z' → Leads slots z (xs ++ ys) z'
leads_join slots z y z' [] ys l m = subst (λ x. Leads slots x ys z') l m
leads_join slots z y z' (e ∷ xs) ys (x, s, l) m = (x, s, leads_join slots x y z' xs ys l m)

-- ---- beginnings

begun_same : (p q behind : List Event) → all_started p ≡ all_started q → AreBegun p behind → AreBegun q behind
begun_same p q [] same b = tt
begun_same p q (e ∷ es) same (first, more) = (
  ⊎_elim (λ (zero : e.thread ≡ 0). inl zero) (λ (t : (thread : Reference) × Has (all_started p) (e.thread, thread)). inr (t.0, subst (λ l. Has l (e.thread, t.0)) same t.1)) first,
  begun_same (p ++ e ∷ []) (q ++ e ∷ []) es (all_append p (e ∷ []) ∙ (ap (λ l. l ++ all_started (e ∷ [])) same ∙ sym (all_append q (e ∷ [])))) more,
)
  where
    all_append : (xs ys : List Event) → all_started (xs ++ ys) ≡ all_started xs ++ all_started ys
    all_append xs ys = ap started (map-append (λ (x : Event). x.entry) xs ys) ∙ started_append (map (λ (x : Event). x.entry) xs) (map (λ (x : Event). x.entry) ys)

begun_put : (before front behind : List Event) (e : Event) → all_started (e ∷ []) ≡ [] → IsBegun (before ++ front) e → AreBegun before (front ++ behind) → AreBegun before (front ++ e ∷ behind)
begun_put before [] behind e none is b = (
  subst (λ p. IsBegun p e) (append-nil before) is,
  begun_same before (before ++ e ∷ []) behind (sym (all_append before (e ∷ []) ∙ (ap (λ l. all_started before ++ l) none ∙ append-nil (all_started before)))) b,
)
  where
    all_append : (xs ys : List Event) → all_started (xs ++ ys) ≡ all_started xs ++ all_started ys
    all_append xs ys = ap started (map-append (λ (x : Event). x.entry) xs ys) ∙ started_append (map (λ (x : Event). x.entry) xs) (map (λ (x : Event). x.entry) ys)
begun_put before (x ∷ front) behind e none is (first, more) = (first, begun_put (before ++ x ∷ []) front behind e none (subst (λ p. IsBegun p e) (sym (append_assoc before (x ∷ []) front)) is) more)

-- ---- one read more

module _ (slots : ℕ) (run : Run) (v : View) (e : Entry) (front behind : List Event) (r : IsRun slots run) (k : Knows slots run v) (may : MayRead slots run v.thread e front behind) where
  abbrev t : ℕ
  t = v.thread

  abbrev pub new : Run
  new = run_read run front behind t e

  pub none_started : StartsNone e.call e.reply
  none_started = ⊎_elim (λ (s : StartsNone e.call e.reply). s)
      (λ (s : Starts slots (may.store ++ e.moved) t e.call e.reply). absurd (read_not_start e.call s.0 s.1 s.2 may.reads s.3))
      (starts slots (may.store ++ e.moved) t e.call e.reply may.steps.reply_is)

  -- the entries of a thread, but for the reader's
  by_now : (n : ℕ) → by n new.events ≡ by n front ++ by n (event_of t e ∷ behind)
  by_now n = by_append n front (event_of t e ∷ behind)

  by_was : (n : ℕ) → by n run.events ≡ by n front ++ by n behind
  by_was n = ap (by n) may.split ∙ by_append n front behind

  put_in : (n : ℕ) → by n (event_of t e ∷ behind) ≡ by n (event_of t e ∷ []) ++ by n behind
  put_in n = by_append n (event_of t e ∷ []) behind

  pub read_own : by t new.events ≡ by t run.events ++ e ∷ []
  read_own =
      let front_is : by t run.events ≡ by t front = by_was t ∙ (ap (λ l. by t front ++ l) may.since ∙ append-nil (by t front)) in
      by_now t ∙ (ap (λ l. by t front ++ l) (put_in t ∙ (ap (λ l. by t (event_of t e ∷ []) ++ l) may.since ∙ append-nil (by t (event_of t e ∷ []))))
      ∙ (sym (by_append t front (event_of t e ∷ [])) ∙ (by_own t e front ∙ ap (λ l. l ++ e ∷ []) (sym front_is))))

  pub read_other : (n : ℕ) → (n ≡ t → ⊥) → by n new.events ≡ by n run.events
  read_other n ne =
      let nobody : by n (event_of t e ∷ []) ≡ [] = by_other t n e [] ne in
      by_now n ∙ (ap (λ l. by n front ++ l) (put_in n ∙ ap (λ l. l ++ by n behind) nobody) ∙ sym (by_was n))

  -- what a log tells that no read tells
  telling : {X : Type 0} (f : List Entry → X) → f (by t run.events ++ e ∷ []) ≡ f (by t run.events) → (n : ℕ) → f (by n new.events) ≡ f (by n run.events)
  telling f same n = by_test (eqb n t) refl
    where
      by_test : (b : Bool) → eqb n t ≡ b → f (by n new.events) ≡ f (by n run.events)
      by_test true is = let q : n ≡ t = eqb-true n t is in ap (λ m. f (by m new.events)) q ∙ (ap f read_own ∙ (same ∙ ap (λ m. f (by m run.events)) (sym q)))
      by_test false is = ap f (read_other n (λ q. true≢false (sym (eq-eqb n t q) ∙ is)))

  started_same : (n : ℕ) → started (by n new.events) ≡ started (by n run.events)
  started_same = telling started (started_append (by t run.events) (e ∷ []) ∙ (ap (λ l. started (by t run.events) ++ l) (append-nil (started_by e.call e.reply) ∙ none_started.0) ∙ append-nil (started (by t run.events))))

  ids_same : (n : ℕ) → ids_moved (by n new.events) ≡ ids_moved (by n run.events)
  ids_same = telling ids_moved (ids_append (by t run.events) (e ∷ []) ∙ (ap (λ l. ids_moved (by t run.events) ++ l) (append-nil (map (λ (x : Item). x.id) e.moved) ∙ ap (map (λ (x : Item). x.id)) may.bare) ∙ append-nil (ids_moved (by t run.events))))

  pub ends_same : (n : ℕ) → has_end (by n new.events) ≡ has_end (by n run.events)
  ends_same = telling has_end (has_end_append (by t run.events) (e ∷ []) ∙ (ap (λ b. has_end (by t run.events) || (b || false)) (read_not_end e.call may.reads) ∙ or_false (has_end (by t run.events))))
    where
      or_false : (b : Bool) → (b || false) ≡ b
      or_false true = refl
      or_false false = refl

  pub all_append : (xs ys : List Event) → all_started (xs ++ ys) ≡ all_started xs ++ all_started ys
  all_append xs ys = ap started (map-append (λ (x : Event). x.entry) xs ys) ∙ started_append (map (λ (x : Event). x.entry) xs) (map (λ (x : Event). x.entry) ys)

  pub no_start : all_started (event_of t e ∷ []) ≡ []
  no_start = append-nil (started_by e.call e.reply) ∙ none_started.0

  pub all_same : all_started new.events ≡ all_started run.events
  all_same = all_append front (event_of t e ∷ behind)
      ∙ (ap (λ l. all_started front ++ l) (all_append (event_of t e ∷ []) behind ∙ ap (λ l. l ++ all_started behind) no_start)
      ∙ (sym (all_append front behind) ∙ ap all_started (sym may.split)))

  pub read_run : IsRun slots new
  read_run = record {
    leads =
        let was = leads_split slots front behind opening run.store (subst (λ es. Leads slots opening es run.store) may.split r.leads) in
        let same : was.0 ≡ may.store = leads_one slots opening was.0 may.store front was.1 may.leads in
        leads_join slots opening may.store run.store front (event_of t e ∷ behind) may.leads (may.store, may.steps, subst (λ x. Leads slots x behind run.store) same was.2);
    counted = r.counted;
    started = ap length all_same ∙ r.started;
    begun = begun_put [] front behind (event_of t e) no_start
        (⊎_elim (λ (zero : t ≡ 0). inl zero) (λ (q : (thread : Reference) × Has (all_started front) (t, thread)). inr q) may.begun)
        (subst (AreBegun []) may.split r.begun);
    within =
        let was = subst (Each (λ (x : Event). IsThread run x.thread)) may.split r.within in
        each_append (λ (x : Event). IsThread run x.thread) front (event_of t e ∷ behind) (each_front (λ (x : Event). IsThread run x.thread) front behind was)
        (k.within, each_behind (λ (x : Event). IsThread run x.thread) front behind was);
    made = λ n pos lt. let m = r.made n pos lt in (m.0, m.1, m.2, subst (λ l. Has l (n, m.1)) (sym (started_same m.0)) m.3);
    unmoved =
        let was = subst (Each MovesNoThread) may.split r.unmoved in
        each_append MovesNoThread front (event_of t e ∷ behind) (each_front MovesNoThread front behind was)
        (subst (Each (λ (x : Item). IsNoThread x.thing)) (sym may.bare) tt, each_behind MovesNoThread front behind was);
    from = each_more (ComesFrom run.events) (ComesFrom new.events) from_now run.store r.from;
    ended = each_more (EndsSo run.events) (EndsSo new.events) (λ x so s how is end. ends_same s.number ∙ so s how is end) run.store r.ended;
    mentions = r.mentions;
    sized = r.sized;
  }
    where
      from_now : (x : Item) → ComesFrom run.events x → ComesFrom new.events x
      from_now x (inl g) = inl g
      from_now x (inr (inl m)) = inr (inl (m.0, subst (λ l. Has l x.id) (sym (ids_same x.id.thread)) m.1))
      from_now x (inr (inr s)) = inr (inr (s.0, s.1, s.2, subst (λ l. s.1 < length l) (sym (started_same s.0)) s.3))

  pub read_grows : Grows run new t
  read_grows = record {
    more = omega arith;
    started = λ p h. subst (λ l. Has l p) (sym all_same) h;
    generation = λ n lt. refl;
    logs = λ n lt other i. record { entries = read_other n other i; refusals = (log_of run n).refusals };
    names = λ x n. n;
    own = (e ∷ [], read_own);
  }

  pub read_knows : (refs : List Ref) → v.ended ≡ false → Each (NamesHeld run.store) refs → Knows slots new (with_entry v e refs)
  read_knows refs going named =
      let open_log : has_end v.log.entries ≡ false = subst (λ b. IsOver b v.log) going k.over in
      let unended : has_end (by t run.events) ≡ false = ap (λ (l : Log). has_end l.entries) (sym k.log) ∙ open_log in
      let not_end = read_not_end e.call may.reads in record {
        same_slots = k.same_slots;
        within = k.within;
        begun = begun_on run new t t read_grows k.begun;
        generation = k.generation;
        log = λ i. record {
          entries = (ap (λ (l : Log). l.entries ++ e ∷ []) k.log ∙ sym read_own) i;
          refusals = ap (λ (l : Log). l.refusals) k.log i;
        };
        over = subst (λ b. IsOver b (logged v.log e)) (sym not_end) (no_end_more v.log.entries e open_log not_end);
        known = each_append (NamesHeld run.store) v.known refs k.known named;
        told = each_more (IsTold run) (IsTold new) (told_on run new t read_grows unended) v.told k.told;
        due = λ n is. absurd (let h : None ≡ Some n = sym none_started.1 ∙ is in cc);
      }
