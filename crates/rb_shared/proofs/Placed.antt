-- The history of one order: its reads stand at their points, and it is legal where the steps of the order are the plain ones.
use Rattle.std.proofs.Common.{◌≡◌, ◌≤◌, ◌<◌, ◌+◌, inl, inr, ℕ, zero, suc, ◌==◌, ◌||◌, Bool, true, false, not, cond, ltb, ltb-true, ltb-false, List, [], ◌∷◌, ◌++◌, length, map, filter, slice_get, Option, Some, None, refl, sym, ap, ◌∙◌, subst, arith, append-nil, append_assoc, eqb-true, eq-eqb, ne_eqb, true≢false}
use Rattle.std.proofs.lemmas.List.{map-append}
use Rattle.std.proofs.lemmas.List.Elements.{filter-append}
use Rattle.std.proofs.lemmas.Grind.{flat_map-append}
use Rattle.rb_model.specs.declared.value.Id.{Id}
use Rattle.rb_model.specs.Values.{Reference}
use Rattle.rb_model.specs.Acts.{Act, Reply, SetField, Put, Push, Unshift, Pop, Shift, DeleteAt, KPut, KDelete, Clear, Join, Lock, Unlock}
use Rattle.rb_model.specs.Things.{Thing, Object, Elements, Pairs, Mutex, Thread}
use Rattle.rb_model.specs.Private.{Item}
use Rattle.rb_model.specs.Log.{Call, On, Start, Gather, Print, End, Entry, Refusal}
use Rattle.rb_model.specs.Started.{started, started_by}
use Rattle.rb_model.specs.Values.{same_id}
use Rattle.rb_shared.specs.Lists.{Has, Each}
use Rattle.rb_shared.specs.Store.{Store, opening, found, with_thing}
use Rattle.rb_shared.specs.Step.{Steps, behind_act, store_behind, with_act}
use Rattle.rb_shared.specs.History.{Event, Placed, is_event, is_read, is_read_act, moves_none, ArePoints, reads_at, all_reads_at, merged, merge, Leads, by, entries_of, all_started, IsBegun, EndsOnce, MovesNoThread}
use Rattle.rb_shared.specs.Placing.{events_in, points_from, placed_log, placed_logs, history_of}
use Rattle.rb_shared.specs.Laws.{OneOrderIsLegal}
use Rattle.rb_shared.proofs.Runs.{has_front, has_behind, leads_split, each_append, each_more}

-- ---- a read that moves nothing leaves the store

abbrev IsQuiet : Entry → Type 0
IsQuiet e = is_event e ≡ false

read_keeps : (t : ℕ) (thing : Thing) (act : Act) → is_read_act act ≡ true → behind_act t thing act ≡ thing
read_keeps t (Thread s) Join r = absurd (let h : false ≡ true = r in cc)
read_keeps t (Thread s) act r = refl
read_keeps t (Mutex None) Lock r = absurd (let h : false ≡ true = r in cc)
read_keeps t (Mutex (Some owner)) Unlock r = absurd (let h : false ≡ true = r in cc)
read_keeps t (Mutex owner) act r = refl
read_keeps t (Object class fields) (SetField name v) r = absurd (let h : false ≡ true = r in cc)
read_keeps t (Object class fields) act r = refl
read_keeps t (Elements vs) (Put i v) r = absurd (let h : false ≡ true = r in cc)
read_keeps t (Elements vs) (Push v) r = absurd (let h : false ≡ true = r in cc)
read_keeps t (Elements vs) (Unshift v) r = absurd (let h : false ≡ true = r in cc)
read_keeps t (Elements vs) Pop r = absurd (let h : false ≡ true = r in cc)
read_keeps t (Elements vs) Shift r = absurd (let h : false ≡ true = r in cc)
read_keeps t (Elements vs) (DeleteAt i) r = absurd (let h : false ≡ true = r in cc)
read_keeps t (Elements vs) Clear r = absurd (let h : false ≡ true = r in cc)
read_keeps t (Elements vs) act r = refl
read_keeps t (Pairs ps) (KPut k v) r = absurd (let h : false ≡ true = r in cc)
read_keeps t (Pairs ps) (KDelete k) r = absurd (let h : false ≡ true = r in cc)
read_keeps t (Pairs ps) Clear r = absurd (let h : false ≡ true = r in cc)
read_keeps t (Pairs ps) act r = refl

same_first : (b : Bool) (x : Item) (xs : Store) (id : Id) (thing : Thing) → cond b (Some x.thing) (found xs id) ≡ Some thing → (found xs id ≡ Some thing → with_thing xs id thing ≡ xs)
    → cond b (record { id = x.id; thing = thing } ∷ xs) (x ∷ with_thing xs id thing) ≡ x ∷ xs
same_first true x xs id thing f more = let is : x.thing ≡ thing = cc in ap (λ y. record { id = x.id; thing = y } ∷ xs) (sym is)
same_first false x xs id thing f more = ap (λ ys. x ∷ ys) (more f)

with_same : (z : Store) (id : Id) (thing : Thing) → found z id ≡ Some thing → with_thing z id thing ≡ z
with_same [] id thing f = refl
with_same (x ∷ xs) id thing f = same_first (same_id x.id id) x xs id thing f (with_same xs id thing)

act_same : (t : ℕ) (z : Store) (id : Id) (o : Option Thing) (act : Act) → found z id ≡ o → is_read_act act ≡ true → with_act t z id o act ≡ z
act_same t z id None act f r = refl
act_same t z id (Some thing) act f r = ap (with_thing z id) (read_keeps t thing act r) ∙ with_same z id thing f

parts : (a b : Bool) → (not a || not b) ≡ false → (a ≡ true) × (b ≡ true)
parts true true e = (refl, refl)
parts true false e = absurd (let h : true ≡ false = e in cc)
parts false b e = absurd (let h : true ≡ false = e in cc)

none_moved : (ms : List Item) → moves_none ms ≡ true → ms ≡ []
none_moved [] e = refl
none_moved (m ∷ ms) e = absurd (let h : false ≡ true = e in cc)

read_same : (slots : ℕ) (z : Store) (t : ℕ) (c : Call) → is_read c ≡ true → store_behind slots z t c ≡ z
read_same slots z t (On r act) e = act_same t z r.id (found z r.id) act refl e
read_same slots z t (Start id body values) e = absurd (let h : false ≡ true = e in cc)
read_same slots z t (Gather r) e = absurd (let h : false ≡ true = e in cc)
read_same slots z t (Print bytes) e = absurd (let h : false ≡ true = e in cc)
read_same slots z t (End how) e = absurd (let h : false ≡ true = e in cc)

quiet_step : (slots : ℕ) (z z' : Store) (t : ℕ) (e : Entry) → IsQuiet e → Steps slots z t e z' → z' ≡ z
quiet_step slots z z' t e q s =
    let p = parts (is_read e.call) (moves_none e.moved) q in
    let same : z ++ e.moved ≡ z = ap (λ ms. z ++ ms) (none_moved e.moved p.1) ∙ append-nil z in
    s.store_is ∙ (ap (λ w. store_behind slots w t e.call) same ∙ read_same slots z t e.call p.0)

starts_none : (c : Call) (r : Reply) → is_read c ≡ true → started_by c r ≡ []
starts_none (On x act) r e = refl
starts_none (Gather x) r e = refl
starts_none (Print bytes) r e = refl
starts_none (End how) r e = refl
starts_none (Start id body values) r e = absurd (let h : false ≡ true = e in cc)

quiet_starts : (e : Entry) → IsQuiet e → started_by e.call e.reply ≡ []
quiet_starts e q = starts_none e.call e.reply (parts (is_read e.call) (moves_none e.moved) q).0

-- ---- the logs of all threads, where k events came before

abbrev placed_from : ℕ → List Event → ℕ → List (List Refusal) → List Placed
placed_from k es t [] = []
placed_from k es t (rs ∷ more) = record { log = record { entries = by t es; refusals = rs }; points = points_from t k es } ∷ placed_from k es (suc t) more

placed_is : (es : List Event) (t : ℕ) (refusals : List (List Refusal)) → placed_logs es t refusals ≡ placed_from 0 es t refusals
placed_is es t [] = refl
placed_is es t (rs ∷ more) = ap (λ l. placed_log es t rs ∷ l) (placed_is es (suc t) more)

-- what one thread reads at point j
abbrev reads : ℕ → ℕ → ℕ → List Event → List Event
reads j k t es = reads_at j t (by t es) (points_from t k es)

-- one event more in front
abbrev next : ℕ → Event → ℕ
next k e = cond (is_event e.entry) (suc k) k

-- what one event gives the reads of one thread at a point: whether it is of this thread, an event of the history, and at this point
abbrev picked : Bool → Bool → Bool → Event → List Event
picked a b c x = cond a (cond b [] (cond c (x ∷ []) [])) []

abbrev one : ℕ → ℕ → ℕ → Event → List Event
one j k t e = picked (e.thread == t) (is_event e.entry) (k == j) (record { thread = t; entry = e.entry })

reads_cons : (j k t : ℕ) (e : Event) (es : List Event) → reads j k t (e ∷ es) ≡ one j k t e ++ reads j (next k e) t es
reads_cons j k t e es = of_thread (e.thread == t) (is_event e.entry)
  where
    at_point : (c : Bool) (x : Event) (xs : List Event) → cond c (x ∷ xs) xs ≡ cond c (x ∷ []) [] ++ xs
    at_point true x xs = refl
    at_point false x xs = refl

    of_event : (b : Bool)
        → reads_at j t (e.entry ∷ by t es) (cond b (None ∷ points_from t (suc k) es) (Some k ∷ points_from t k es))
        ≡ cond b [] (cond (k == j) (record { thread = t; entry = e.entry } ∷ []) []) ++ reads j (cond b (suc k) k) t es
    of_event true = refl
    of_event false = at_point (k == j) (record { thread = t; entry = e.entry }) (reads j k t es)

    of_thread : (a b : Bool)
        → reads_at j t (map (λ (x : Event). x.entry) (cond a (e ∷ filter (λ (x : Event). x.thread == t) es) (filter (λ (x : Event). x.thread == t) es)))
        (cond a (cond b (None ∷ points_from t (suc k) es) (Some k ∷ points_from t k es)) (points_from t (cond b (suc k) k) es))
        ≡ picked a b (k == j) (record { thread = t; entry = e.entry }) ++ reads j (cond b (suc k) k) t es
    of_thread true b = of_event b
    of_thread false b = refl

-- no read of what is left stands at an earlier point
next_more : (k : ℕ) (b : Bool) → k ≤ cond b (suc k) k
next_more k true = omega arith
next_more k false = omega arith

one_past : (j k t : ℕ) (e : Event) → j < k → one j k t e ≡ []
one_past j k t e lt = of_thread (e.thread == t) (is_event e.entry) (k == j) (ne_eqb k j (λ h. omega (arith, h, lt)))
  where
    of_thread : (a b c : Bool) → c ≡ false → picked a b c (record { thread = t; entry = e.entry }) ≡ []
    of_thread true true c f = refl
    of_thread true false true f = absurd (cc)
    of_thread true false false f = refl
    of_thread false b c f = refl

reads_past : (j k t : ℕ) (es : List Event) → j < k → reads j k t es ≡ []
reads_past j k t [] lt = refl
reads_past j k t (e ∷ es) lt =
    reads_cons j k t e es
    ∙ (ap (λ l. l ++ reads j (next k e) t es) (one_past j k t e lt) ∙ reads_past j (next k e) t es (let m = next_more k (is_event e.entry) in omega (arith, m, lt)))

all_past : (j k : ℕ) (es : List Event) (t : ℕ) (refusals : List (List Refusal)) → j < k → all_reads_at j t (placed_from k es t refusals) ≡ []
all_past j k es t [] lt = refl
all_past j k es t (rs ∷ more) lt = ap (λ l. l ++ all_reads_at j (suc t) (placed_from k es (suc t) more)) (reads_past j k t es lt) ∙ all_past j k es (suc t) more lt

-- the next event leaves the reads at each point, and so does the next read at each other
one_event : (j k t : ℕ) (e : Event) → is_event e.entry ≡ true → one j k t e ≡ []
one_event j k t e is = of_thread (e.thread == t) (is_event e.entry) is
  where
    of_thread : (a b : Bool) → b ≡ true → picked a b (k == j) (record { thread = t; entry = e.entry }) ≡ []
    of_thread true true f = refl
    of_thread true false f = absurd (cc)
    of_thread false b f = refl

one_other : (j k t : ℕ) (e : Event) → (k == j) ≡ false → one j k t e ≡ []
one_other j k t e is = of_thread (e.thread == t) (is_event e.entry) (k == j) is
  where
    of_thread : (a b c : Bool) → c ≡ false → picked a b c (record { thread = t; entry = e.entry }) ≡ []
    of_thread true true c f = refl
    of_thread true false true f = absurd (cc)
    of_thread true false false f = refl
    of_thread false b c f = refl

all_same : (j k : ℕ) (e : Event) (es : List Event) (t : ℕ) (refusals : List (List Refusal)) → ((u : ℕ) → one j k u e ≡ [])
    → all_reads_at j t (placed_from k (e ∷ es) t refusals) ≡ all_reads_at j t (placed_from (next k e) es t refusals)
all_same j k e es t [] f = refl
all_same j k e es t (rs ∷ more) f =
    ap (λ l. l ++ all_reads_at j (suc t) (placed_from k (e ∷ es) (suc t) more)) (reads_cons j k t e es ∙ ap (λ l. l ++ reads j (next k e) t es) (f t))
    ∙ ap (λ l. reads j (next k e) t es ++ l) (all_same j k e es (suc t) more f)

-- two lists of logs with the same reads from point k on
merged_same : (evs : List Event) (k : ℕ) (ps qs : List Placed) → ((j : ℕ) → k ≤ j → all_reads_at j 0 ps ≡ all_reads_at j 0 qs) → merged k evs ps ≡ merged k evs qs
merged_same [] k ps qs f = f k (omega arith)
merged_same (e ∷ evs) k ps qs f =
    ap (λ l. l ++ e ∷ merged (suc k) evs ps) (f k (omega arith)) ∙ ap (λ l. all_reads_at k 0 qs ++ e ∷ l) (merged_same evs (suc k) ps qs (λ j le. f j (omega (arith, le))))

-- ---- the next read comes in front of the reads of its thread at this point

-- e is put into a list, behind what is quiet and of other threads
record Lays (e : Event) (xs ys : List Event) : Type 0 where
  front : List Event
  behind : List Event
  without_is : xs ≡ front ++ behind
  with_is : ys ≡ front ++ e ∷ behind
  others : by e.thread front ≡ []
  quiet : Each (λ (x : Event). IsQuiet x.entry) front

one_here : (k : ℕ) (e : Event) → IsQuiet e.entry → one k k e.thread e ≡ e ∷ []
one_here k e q = of_thread (e.thread == e.thread) (is_event e.entry) (k == k) (eq-eqb e.thread e.thread refl) q (eq-eqb k k refl)
  where
    of_thread : (a b c : Bool) → a ≡ true → b ≡ false → c ≡ true → picked a b c (record { thread = e.thread; entry = e.entry }) ≡ e ∷ []
    of_thread true false true p q r = refl
    of_thread true false false p q r = absurd (cc)
    of_thread true true c p q r = absurd (cc)
    of_thread false b c p q r = absurd (cc)

one_not : (j k t : ℕ) (e : Event) → (e.thread == t) ≡ false → one j k t e ≡ []
one_not j k t e is = ap (λ a. picked a (is_event e.entry) (k == j) (record { thread = t; entry = e.entry })) is

by_one : (t : ℕ) (x : Event) (xs : List Event) → (x.thread == t) ≡ false → by t (x ∷ xs) ≡ by t xs
by_one t x xs is = ap (λ a. map (λ (y : Event). y.entry) (cond a (x ∷ filter (λ (y : Event). y.thread == t) xs) (filter (λ (y : Event). y.thread == t) xs))) is

by_own : (x : Event) (xs : List Event) → by x.thread (x ∷ xs) ≡ x.entry ∷ by x.thread xs
by_own x xs = ap (λ a. map (λ (y : Event). y.entry) (cond a (x ∷ filter (λ (y : Event). y.thread == x.thread) xs) (filter (λ (y : Event). y.thread == x.thread) xs))) (eq-eqb x.thread x.thread refl)

by_append : (t : ℕ) (xs ys : List Event) → by t (xs ++ ys) ≡ by t xs ++ by t ys
by_append t xs ys =
    ap (map (λ (e : Event). e.entry)) (filter-append (λ (e : Event). e.thread == t) xs ys)
    ∙ map-append (λ (e : Event). e.entry) (filter (λ (e : Event). e.thread == t) xs) (filter (λ (e : Event). e.thread == t) ys)

-- the reads of one thread are no other's, and quiet
one_quiet : (j k t : ℕ) (e : Event) → Each (λ (x : Event). (x.thread ≡ t) × IsQuiet x.entry) (one j k t e)
one_quiet j k t e = of_thread (e.thread == t) (is_event e.entry) refl (k == j)
  where
    of_thread : (a b : Bool) → is_event e.entry ≡ b → (c : Bool) → Each (λ (x : Event). (x.thread ≡ t) × IsQuiet x.entry) (picked a b c (record { thread = t; entry = e.entry }))
    of_thread true true q c = tt
    of_thread true false q true = ((refl, q), tt)
    of_thread true false q false = tt
    of_thread false b q c = tt

reads_quiet : (j k t : ℕ) (es : List Event) → Each (λ (x : Event). (x.thread ≡ t) × IsQuiet x.entry) (reads j k t es)
reads_quiet j k t [] = tt
reads_quiet j k t (e ∷ es) =
    subst (Each (λ (x : Event). (x.thread ≡ t) × IsQuiet x.entry)) (sym (reads_cons j k t e es))
    (each_append (λ (x : Event). (x.thread ≡ t) × IsQuiet x.entry) (one j k t e) (reads j (next k e) t es) (one_quiet j k t e) (reads_quiet j (next k e) t es))

by_others : (u t : ℕ) (xs : List Event) → (t == u) ≡ false → Each (λ (x : Event). (x.thread ≡ t) × IsQuiet x.entry) xs → by u xs ≡ []
by_others u t [] ne q = refl
by_others u t (x ∷ xs) ne (q, qs) = by_one u x xs (ap (λ n. n == u) q.0 ∙ ne) ∙ by_others u t xs ne qs

put_first : (k : ℕ) (e : Event) (es : List Event) (t : ℕ) (more : List (List Refusal)) → IsQuiet e.entry → (b : Bool) → (e.thread == t) ≡ b → e.thread < t + suc (length more) → t ≤ e.thread
    → ((u : ℕ) → u ≡ suc t → u ≤ e.thread → Lays e (all_reads_at k u (placed_from k es u more)) (all_reads_at k u (placed_from k (e ∷ es) u more)))
    → ((u : ℕ) → u ≡ suc t → e.thread < u → all_reads_at k u (placed_from k (e ∷ es) u more) ≡ all_reads_at k u (placed_from k es u more))
    → Lays e (reads k k t es ++ all_reads_at k (suc t) (placed_from k es (suc t) more)) (reads k k t (e ∷ es) ++ all_reads_at k (suc t) (placed_from k (e ∷ es) (suc t) more))
put_first k e es t more q true is lt le rec rest = record {
  front = [];
  behind = reads k k t es ++ all_reads_at k (suc t) (placed_from k es (suc t) more);
  without_is = refl;
  with_is =
      ap (λ l. l ++ all_reads_at k (suc t) (placed_from k (e ∷ es) (suc t) more))
      (reads_cons k k t e es ∙ (ap (λ l. l ++ reads k (next k e) t es) (ap (λ u. one k k u e) (sym (eqb-true e.thread t is)) ∙ one_here k e q) ∙ ap (λ b. e ∷ reads k (cond b (suc k) k) t es) q))
      ∙ ap (λ l. e ∷ (reads k k t es ++ l)) (rest (suc t) refl (let same = eqb-true e.thread t is in omega (arith, same)));
  others = refl;
  quiet = tt;
}
put_first k e es t more q false is lt le rec rest =
    let p = rec (suc t) refl (let ne : (e.thread ≡ t → ⊥) = (λ h. true≢false (sym (eq-eqb e.thread t h) ∙ is)) in above e.thread t ne le) in record {
      front = reads k k t es ++ p.front;
      behind = p.behind;
      without_is = ap (λ l. reads k k t es ++ l) p.without_is ∙ sym (append_assoc (reads k k t es) p.front p.behind);
      with_is =
          ap (λ l. l ++ all_reads_at k (suc t) (placed_from k (e ∷ es) (suc t) more))
          (reads_cons k k t e es ∙ (ap (λ l. l ++ reads k (next k e) t es) (one_not k k t e is) ∙ ap (λ b. reads k (cond b (suc k) k) t es) q))
          ∙ (ap (λ l. reads k k t es ++ l) p.with_is ∙ sym (append_assoc (reads k k t es) p.front (e ∷ p.behind)));
      others = by_append e.thread (reads k k t es) p.front ∙ (ap (λ l. l ++ by e.thread p.front) (by_others e.thread t (reads k k t es) (flip e.thread t is) (reads_quiet k k t es)) ∙ p.others);
      quiet = each_append (λ (x : Event). IsQuiet x.entry) (reads k k t es) p.front (each_more (λ (x : Event). (x.thread ≡ t) × IsQuiet x.entry) (λ (x : Event). IsQuiet x.entry) (λ x h. h.1) (reads k k t es) (reads_quiet k k t es)) p.quiet;
    }
  where
    above : (a b : ℕ) → (a ≡ b → ⊥) → b ≤ a → suc b ≤ a
    above a b ne le = by_test (ltb b a) refl
      where
        by_test : (c : Bool) → ltb b a ≡ c → suc b ≤ a
        by_test true is = let lt = ltb-true b a is in omega (arith, lt)
        by_test false is = let ge = ltb-false b a is in absurd (ne (omega (arith, ge, le)))

    flip : (a b : ℕ) → (a == b) ≡ false → (b == a) ≡ false
    flip a b is = ne_eqb b a (λ h. true≢false (sym (eq-eqb a b (sym h)) ∙ is))

-- the threads behind that of e read what they read
later : (k : ℕ) (e : Event) (es : List Event) (t : ℕ) (refusals : List (List Refusal)) → IsQuiet e.entry → e.thread < t
    → all_reads_at k t (placed_from k (e ∷ es) t refusals) ≡ all_reads_at k t (placed_from k es t refusals)
later k e es t [] q lt = refl
later k e es t (rs ∷ more) q lt =
    ap (λ l. l ++ all_reads_at k (suc t) (placed_from k (e ∷ es) (suc t) more))
    (reads_cons k k t e es ∙ (ap (λ l. l ++ reads k (next k e) t es) (one_not k k t e (ne_eqb e.thread t (λ h. omega (arith, h, lt)))) ∙ ap (λ b. reads k (cond b (suc k) k) t es) q))
    ∙ ap (λ l. reads k k t es ++ l) (later k e es (suc t) more q (omega (arith, lt)))

put_at : (k : ℕ) (e : Event) (es : List Event) (t : ℕ) (refusals : List (List Refusal)) → IsQuiet e.entry → e.thread < t + length refusals → t ≤ e.thread
    → Lays e (all_reads_at k t (placed_from k es t refusals)) (all_reads_at k t (placed_from k (e ∷ es) t refusals))
put_at k e es t [] q lt le = absurd (omega (arith, lt, le))
put_at k e es t (rs ∷ more) q lt le = put_first k e es t more q (e.thread == t) refl lt le
    (λ u is le'. put_at k e es u more q (omega (arith, is, lt)) le')
    (λ u is lt'. later k e es u more q lt')

-- ---- the merge

abbrev woven : ℕ → List Event → List (List Refusal) → List Event
woven k es refusals = merged k (events_in es) (placed_from k es 0 refusals)

abbrev Within : List (List Refusal) → List Event → Type 0
Within refusals es = Each (λ (e : Event). e.thread < length refusals) es

none_left : (k t : ℕ) (refusals : List (List Refusal)) → all_reads_at k t (placed_from k [] t refusals) ≡ []
none_left k t [] = refl
none_left k t (rs ∷ more) = none_left k (suc t) more

in_events : (b : Bool) (k : ℕ) (e : Event) (es : List Event) (ps : List Placed) → is_event e.entry ≡ b → merged k (events_in (e ∷ es)) ps ≡ merged k (cond b (e ∷ events_in es) (events_in es)) ps
in_events b k e es ps is = ap (λ c. merged k (cond c (e ∷ events_in es) (events_in es)) ps) is

woven_event : (k : ℕ) (e : Event) (es : List Event) (refusals : List (List Refusal)) → is_event e.entry ≡ true → woven k (e ∷ es) refusals ≡ e ∷ woven (suc k) es refusals
woven_event k e es refusals is =
    let ps = placed_from k (e ∷ es) 0 refusals in
    let qs = placed_from (suc k) es 0 refusals in
    let same : (j : ℕ) → all_reads_at j 0 ps ≡ all_reads_at j 0 qs =
    (λ j. all_same j k e es 0 refusals (λ u. one_event j k u e is) ∙ ap (λ b. all_reads_at j 0 (placed_from (cond b (suc k) k) es 0 refusals)) is) in
    in_events true k e es ps is
    ∙ (ap (λ l. l ++ e ∷ merged (suc k) (events_in es) ps) (same k ∙ all_past k (suc k) es 0 refusals (omega arith))
    ∙ ap (λ l. e ∷ l) (merged_same (events_in es) (suc k) ps qs (λ j le. same j)))

lays_more : (e : Event) (xs ys tail tail' : List Event) → Lays e xs ys → tail ≡ tail' → Lays e (xs ++ tail') (ys ++ tail)
lays_more e xs ys tail tail' p same = record {
  front = p.front;
  behind = p.behind ++ tail';
  without_is = ap (λ l. l ++ tail') p.without_is ∙ append_assoc p.front p.behind tail';
  with_is = ap (λ l. l ++ tail) p.with_is ∙ (append_assoc p.front (e ∷ p.behind) tail ∙ ap (λ l. p.front ++ e ∷ (p.behind ++ l)) same);
  others = p.others;
  quiet = p.quiet;
}

woven_read : (k : ℕ) (e : Event) (es : List Event) (refusals : List (List Refusal)) → IsQuiet e.entry → e.thread < length refusals → Lays e (woven k es refusals) (woven k (e ∷ es) refusals)
woven_read k e es refusals q lt = subst (Lays e (woven k es refusals)) (sym (in_events false k e es (placed_from k (e ∷ es) 0 refusals) q)) (by_events (events_in es))
  where
    by_events : (evs : List Event) → Lays e (merged k evs (placed_from k es 0 refusals)) (merged k evs (placed_from k (e ∷ es) 0 refusals))
    by_events [] = put_at k e es 0 refusals q (omega (arith, lt)) (omega arith)
    by_events (x ∷ evs) = lays_more e (all_reads_at k 0 (placed_from k es 0 refusals)) (all_reads_at k 0 (placed_from k (e ∷ es) 0 refusals))
        (x ∷ merged (suc k) evs (placed_from k (e ∷ es) 0 refusals)) (x ∷ merged (suc k) evs (placed_from k es 0 refusals))
        (put_at k e es 0 refusals q (omega (arith, lt)) (omega arith))
        (ap (λ l. x ∷ l) (merged_same evs (suc k) (placed_from k (e ∷ es) 0 refusals) (placed_from k es 0 refusals)
        (λ j le. all_same j k e es 0 refusals (λ u. one_other j k u e (ne_eqb k j (λ h. omega (arith, h, le)))) ∙ ap (λ b. all_reads_at j 0 (placed_from (cond b (suc k) k) es 0 refusals)) q)))

-- ---- its steps are the plain ones

quiet_run : (slots : ℕ) (xs : List Event) (z z' : Store) → Each (λ (x : Event). IsQuiet x.entry) xs → Leads slots z xs z' → z' ≡ z
quiet_run slots [] z z' q l = l
quiet_run slots (x ∷ xs) z z' (q, qs) l = quiet_run slots xs l.0 z' qs l.2 ∙ quiet_step slots z l.0 x.thread x.entry q l.1

leads_join : (slots : ℕ) (xs ys : List Event) (z y z' : Store) → Leads slots z xs y → Leads slots y ys z' → Leads slots z (xs ++ ys) z'
leads_join slots [] ys z y z' l m = subst (λ x. Leads slots x ys z') l m
leads_join slots (x ∷ xs) ys z y z' l m = (l.0, l.1, leads_join slots xs ys l.0 y z' l.2 m)

lay_leads : (slots : ℕ) (e : Event) (xs ys : List Event) (z z' : Store) → Lays e xs ys → Steps slots z e.thread e.entry z → Leads slots z xs z' → Leads slots z ys z'
lay_leads slots e xs ys z z' p step l =
    let split = leads_split slots p.front p.behind z z' (subst (λ w. Leads slots z w z') p.without_is l) in
    let here : split.0 ≡ z = quiet_run slots p.front z split.0 p.quiet split.1 in
    subst (λ w. Leads slots z w z') (sym p.with_is)
    (leads_join slots p.front (e ∷ p.behind) z z z' (subst (Leads slots z p.front) here split.1) (z, step, subst (λ x. Leads slots x p.behind z') here split.2))

leads_woven : (slots : ℕ) (refusals : List (List Refusal)) (es : List Event) (k : ℕ) (z z' : Store) → Within refusals es → Leads slots z es z' → Leads slots z (woven k es refusals) z'
leads_woven slots refusals [] k z z' w l = subst (λ x. Leads slots z x z') (sym (none_left k 0 refusals)) l
leads_woven slots refusals (e ∷ es) k z z' (w, ws) l = by_kind (is_event e.entry) refl (λ j. leads_woven slots refusals es j l.0 z' ws l.2)
  where
    by_kind : (b : Bool) → is_event e.entry ≡ b → ((j : ℕ) → Leads slots l.0 (woven j es refusals) z') → Leads slots z (woven k (e ∷ es) refusals) z'
    by_kind true is more = subst (λ x. Leads slots z x z') (sym (woven_event k e es refusals is)) (l.0, l.1, more (suc k))
    by_kind false is more =
        let here : l.0 ≡ z = quiet_step slots z l.0 e.thread e.entry is l.1 in
        lay_leads slots e (woven k es refusals) (woven k (e ∷ es) refusals) z z' (woven_read k e es refusals is w) (subst (Steps slots z e.thread e.entry) here l.1) (subst (λ x. Leads slots x (woven k es refusals) z') here (more k))

-- ---- it has the logs

lay_by : (t : ℕ) (e : Event) (xs ys es : List Event) → Lays e xs ys → by t xs ≡ by t es → by t ys ≡ by t (e ∷ es)
lay_by t e xs ys es p same = by_test (e.thread == t) refl
  where
    whole : by t p.front ++ by t p.behind ≡ by t es
    whole = sym (ap (by t) p.without_is ∙ by_append t p.front p.behind) ∙ same

    all : by t ys ≡ by t p.front ++ by t (e ∷ p.behind)
    all = ap (by t) p.with_is ∙ by_append t p.front (e ∷ p.behind)

    own : (u : ℕ) → e.thread ≡ u → by u p.front ++ by u p.behind ≡ by u es → by u p.front ++ by u (e ∷ p.behind) ≡ by u (e ∷ es)
    own u is w =
        let nothing : by u p.front ≡ [] = ap (λ n. by n p.front) (sym is) ∙ p.others in
        let first : (xs : List Event) → by u (e ∷ xs) ≡ e.entry ∷ by u xs = (λ xs. ap (λ n. by n (e ∷ xs)) (sym is) ∙ (by_own e xs ∙ ap (λ n. e.entry ∷ by n xs) is)) in
        ap (λ l. l ++ by u (e ∷ p.behind)) nothing ∙ (first p.behind ∙ (ap (λ l. e.entry ∷ l) (sym (ap (λ l. l ++ by u p.behind) nothing) ∙ w) ∙ sym (first es)))

    by_test : (b : Bool) → (e.thread == t) ≡ b → by t ys ≡ by t (e ∷ es)
    by_test true is = all ∙ own t (eqb-true e.thread t is) whole
    by_test false is = all ∙ (ap (λ l. by t p.front ++ l) (by_one t e p.behind is) ∙ (whole ∙ sym (by_one t e es is)))

by_woven : (t : ℕ) (refusals : List (List Refusal)) (es : List Event) (k : ℕ) → Within refusals es → by t (woven k es refusals) ≡ by t es
by_woven t refusals [] k w = ap (by t) (none_left k 0 refusals)
by_woven t refusals (e ∷ es) k (w, ws) = by_kind (is_event e.entry) refl (λ j. by_woven t refusals es j ws)
  where
    by_kind : (b : Bool) → is_event e.entry ≡ b → ((j : ℕ) → by t (woven j es refusals) ≡ by t es) → by t (woven k (e ∷ es) refusals) ≡ by t (e ∷ es)
    by_kind true is more = ap (by t) (woven_event k e es refusals is) ∙ (by_append t (e ∷ []) (woven (suc k) es refusals) ∙ (ap (λ l. by t (e ∷ []) ++ l) (more (suc k)) ∙ sym (by_append t (e ∷ []) es)))
    by_kind false is more = lay_by t e (woven k es refusals) (woven k (e ∷ es) refusals) es (woven_read k e es refusals is w) (more k)

-- ---- it starts the same threads

all_append : (xs ys : List Event) → all_started (xs ++ ys) ≡ all_started xs ++ all_started ys
all_append xs ys =
    ap started (map-append (λ (e : Event). e.entry) xs ys)
    ∙ flat_map-append (λ (e : Entry). started_by e.call e.reply) (map (λ (e : Event). e.entry) xs) (map (λ (e : Event). e.entry) ys)

all_first : (e : Event) (es : List Event) → IsQuiet e.entry → all_started (e ∷ es) ≡ all_started es
all_first e es q = ap (λ l. l ++ all_started es) (quiet_starts e.entry q)

started_woven : (refusals : List (List Refusal)) (es : List Event) (k : ℕ) → Within refusals es → all_started (woven k es refusals) ≡ all_started es
started_woven refusals [] k w = ap all_started (none_left k 0 refusals)
started_woven refusals (e ∷ es) k (w, ws) = by_kind (is_event e.entry) refl (λ j. started_woven refusals es j ws)
  where
    by_kind : (b : Bool) → is_event e.entry ≡ b → ((j : ℕ) → all_started (woven j es refusals) ≡ all_started es) → all_started (woven k (e ∷ es) refusals) ≡ all_started (e ∷ es)
    by_kind true is more = ap all_started (woven_event k e es refusals is) ∙ ap (λ l. started_by e.entry.call e.entry.reply ++ l) (more (suc k))
    by_kind false is more =
        let p = woven_read k e es refusals is w in
        ap all_started p.with_is
        ∙ (all_append p.front (e ∷ p.behind)
        ∙ (ap (λ l. all_started p.front ++ l) (all_first e p.behind is)
        ∙ (sym (ap all_started p.without_is ∙ all_append p.front p.behind) ∙ (more k ∙ sym (all_first e es is)))))

-- ---- each thread begins behind its start

abbrev Begun : List Event → List Event → Type 0
Begun front [] = Unit {0}
Begun front (e ∷ es) = IsBegun front e × Begun (front ++ e ∷ []) es

abbrev More : List Event → List Event → Type 0
More xs ys = (p : ℕ × Reference) → Has (all_started xs) p → Has (all_started ys) p

is_begun_more : (xs ys : List Event) (e : Event) → More xs ys → IsBegun xs e → IsBegun ys e
is_begun_more xs ys e m (inl z) = inl z
is_begun_more xs ys e m (inr b) = inr (b.0, m (e.thread, b.0) b.1)

more_behind : (xs ys zs : List Event) → More xs ys → More (xs ++ zs) (ys ++ zs)
more_behind xs ys zs m p h = subst (λ l. Has l p) (sym (all_append ys zs)) (grown (all_started xs) (all_started ys) (all_started zs) m (subst (λ l. Has l p) (all_append xs zs) h))
  where
    grown : (a b c : List (ℕ × Reference)) → ((p : ℕ × Reference) → Has a p → Has b p) → Has (a ++ c) p → Has (b ++ c) p
    grown [] b c f h = has_behind b c p h
    grown (x ∷ a) b c f (inl e) = has_front b c p (f p (inl e))
    grown (x ∷ a) b c f (inr h) = grown a b c (λ q k. f q (inr k)) h

begun_more : (es xs ys : List Event) → More xs ys → Begun xs es → Begun ys es
begun_more [] xs ys m b = tt
begun_more (e ∷ es) xs ys m (b, bs) = (is_begun_more xs ys e m b, begun_more es (xs ++ e ∷ []) (ys ++ e ∷ []) (more_behind xs ys (e ∷ []) m) bs)

grows : (xs : List Event) (e : Event) → More xs (xs ++ e ∷ [])
grows xs e p h = subst (λ l. Has l p) (sym (all_append xs (e ∷ []))) (has_front (all_started xs) (all_started (e ∷ [])) p h)

lay_begun : (F front behind : List Event) (e : Event) → IsBegun F e → Begun F (front ++ behind) → Begun F (front ++ e ∷ behind)
lay_begun F [] behind e is b = (is, begun_more behind F (F ++ e ∷ []) (grows F e) b)
lay_begun F (x ∷ front) behind e is (b, bs) = (b, lay_begun (F ++ x ∷ []) front behind e (is_begun_more F (F ++ x ∷ []) e (grows F x) is) bs)

begun_woven : (refusals : List (List Refusal)) (es : List Event) (k : ℕ) (F : List Event) → Within refusals es → Begun F es → Begun F (woven k es refusals)
begun_woven refusals [] k F w b = subst (Begun F) (sym (none_left k 0 refusals)) tt
begun_woven refusals (e ∷ es) k F (w, ws) (b, bs) = by_kind (is_event e.entry) refl (λ j G c. begun_woven refusals es j G ws c)
  where
    by_kind : (c : Bool) → is_event e.entry ≡ c → ((j : ℕ) (G : List Event) → Begun G es → Begun G (woven j es refusals)) → Begun F (woven k (e ∷ es) refusals)
    by_kind true is more = subst (Begun F) (sym (woven_event k e es refusals is)) (b, more (suc k) (F ++ e ∷ []) bs)
    by_kind false is more =
        let p = woven_read k e es refusals is w in
        let none_new : More (F ++ e ∷ []) F = (λ q h. subst (λ l. Has l q) (all_append F (e ∷ []) ∙ (ap (λ l. all_started F ++ l) (all_first e [] is) ∙ append-nil (all_started F))) h) in
        subst (Begun F) (sym p.with_is) (lay_begun F p.front p.behind e b (subst (Begun F) p.without_is (more k F (begun_more es (F ++ e ∷ []) F none_new bs))))

all_begun : (es F : List Event) → ((front behind : List Event) (e : Event) → F ++ es ≡ front ++ e ∷ behind → IsBegun front e) → Begun F es
all_begun [] F f = tt
all_begun (e ∷ es) F f = (f F es e refl, all_begun es (F ++ e ∷ []) (λ front behind x h. f front behind x (sym (append_assoc F (e ∷ []) es) ∙ h)))

each_begun : (front F behind es : List Event) (e : Event) → Begun F es → es ≡ front ++ e ∷ behind → IsBegun (F ++ front) e
each_begun [] F behind [] e b h = absurd (cc)
each_begun [] F behind (x ∷ es) e (b, bs) h = let same : x ≡ e = cc in subst (IsBegun (F ++ [])) same (subst (λ l. IsBegun l x) (sym (append-nil F)) b)
each_begun (y ∷ front) F behind [] e b h = absurd (cc)
each_begun (y ∷ front) F behind (x ∷ es) e (b, bs) h =
    let same : x ≡ y = cc in let rest : es ≡ front ++ e ∷ behind = cc in
    subst (λ l. IsBegun l e) (append_assoc F (y ∷ []) front) (subst (λ q. IsBegun ((F ++ q ∷ []) ++ front) e) same (each_begun front (F ++ x ∷ []) behind es e bs rest))

-- ---- events, points and ends

are_events : (es : List Event) → Each (λ (e : Event). is_event e.entry ≡ true) (events_in es)
are_events [] = tt
are_events (e ∷ es) = by_kind (is_event e.entry) refl (are_events es)
  where
    by_kind : (b : Bool) → is_event e.entry ≡ b → Each (λ (x : Event). is_event x.entry ≡ true) (events_in es) → Each (λ (x : Event). is_event x.entry ≡ true) (cond b (e ∷ events_in es) (events_in es))
    by_kind true is more = (is, more)
    by_kind false is more = more

-- those entries of an order that are events move no thread either
none_moves : (es : List Event) → Each MovesNoThread es → Each MovesNoThread (events_in es)
none_moves [] u = tt
none_moves (e ∷ es) (u, us) = by_kind (is_event e.entry) (none_moves es us)
  where
    by_kind : (b : Bool) → Each MovesNoThread (events_in es) → Each MovesNoThread (cond b (e ∷ events_in es) (events_in es))
    by_kind true more = (u, more)
    by_kind false more = more

are_points : (t k : ℕ) (es : List Event) → ArePoints (by t es) (points_from t k es)
are_points t k [] = tt
are_points t k (e ∷ es) = by_kind (e.thread == t) (is_event e.entry) refl (λ j. are_points t j es)
  where
    by_kind : (a b : Bool) → is_event e.entry ≡ b → ((j : ℕ) → ArePoints (by t es) (points_from t j es))
        → ArePoints (map (λ (x : Event). x.entry) (cond a (e ∷ filter (λ (x : Event). x.thread == t) es) (filter (λ (x : Event). x.thread == t) es)))
        (cond a (cond b (None ∷ points_from t (suc k) es) (Some k ∷ points_from t k es)) (points_from t (cond b (suc k) k) es))
    by_kind true true is more = (is, more (suc k))
    by_kind true false is more = (is, more k)
    by_kind false true is more = more (suc k)
    by_kind false false is more = more k

all_points : (es : List Event) (t : ℕ) (refusals : List (List Refusal)) → Each (λ (p : Placed). ArePoints p.log.entries p.points) (placed_logs es t refusals)
all_points es t [] = tt
all_points es t (rs ∷ more) = (are_points t 0 es, all_points es (suc t) more)

all_end : (es : List Event) (t n : ℕ) (refusals : List (List Refusal)) → t + length refusals ≡ n → ((u : ℕ) → u < n → EndsOnce (by u es)) → Each (λ (p : Placed). EndsOnce p.log.entries) (placed_logs es t refusals)
all_end es t n [] c f = tt
all_end es t n (rs ∷ more) c f = (f t (omega (arith, c)), all_end es (suc t) n more (omega (arith, c)) f)

count_logs : (es : List Event) (t : ℕ) (refusals : List (List Refusal)) → length (placed_logs es t refusals) ≡ length refusals
count_logs es t [] = refl
count_logs es t (rs ∷ more) = ap suc (count_logs es (suc t) more)

-- the entries of the log of each number
log_at : (es : List Event) (t i : ℕ) (refusals : List (List Refusal)) → i < length refusals → entries_of (slice_get (placed_logs es t refusals) i) ≡ by (t + i) es
log_at es t i [] lt = absurd (omega arith)
log_at es t zero (rs ∷ more) lt = let n : t ≡ t + 0 = omega arith in ap (λ u. by u es) n
log_at es t (suc i) (rs ∷ more) lt = let n : suc t + i ≡ t + suc i = omega arith in log_at es (suc t) i more (omega (arith, lt)) ∙ ap (λ u. by u es) n

log_past : (es : List Event) (t i : ℕ) (refusals : List (List Refusal)) → length refusals ≤ i → entries_of (slice_get (placed_logs es t refusals) i) ≡ []
log_past es t i [] le = refl
log_past es t zero (rs ∷ more) le = absurd (omega arith)
log_past es t (suc i) (rs ∷ more) le = log_past es (suc t) i more (omega (arith, le))

nobody : (n t : ℕ) (es : List Event) → Each (λ (e : Event). e.thread < n) es → n ≤ t → by t es ≡ []
nobody n t [] w le = refl
nobody n t (e ∷ es) (w, ws) le = by_one t e es (ne_eqb e.thread t (λ h. omega (arith, h, w, le))) ∙ nobody n t es ws le

-- ---- the law

pub one_order_is_legal : OneOrderIsLegal
one_order_is_legal slots es refusals z leads counted within begun ends unmoved = record {
  last = z;
  steps = subst (λ l. Leads slots opening l z) (sym same) (leads_woven slots refusals es 0 opening z within leads);
  logs = λ t. ap (by t) same ∙ (by_woven t refusals es 0 within ∙ sym (log_of t));
  events = are_events es;
  points = all_points es 0 refusals;
  threads = count_logs es 0 refusals ∙ (counted ∙ ap (λ l. suc (length l)) (sym (ap all_started same ∙ started_woven refusals es 0 within)));
  begun = λ front behind e h. each_begun front [] behind (woven 0 es refusals) e (begun_woven refusals es 0 [] within (all_begun es [] begun)) (sym same ∙ h);
  unmoved = none_moves es unmoved;
  ends = all_end es 0 (length refusals) refusals (omega arith) ends;
}
  where
    same : merge (history_of es refusals) ≡ woven 0 es refusals
    same = ap (merged 0 (events_in es)) (placed_is es 0 refusals)

    log_of : (t : ℕ) → entries_of (slice_get (placed_logs es 0 refusals) t) ≡ by t es
    log_of t = by_test (ltb t (length refusals)) refl
      where
        by_test : (b : Bool) → ltb t (length refusals) ≡ b → entries_of (slice_get (placed_logs es 0 refusals) t) ≡ by t es
        by_test true is = let n : 0 + t ≡ t = omega arith in log_at es 0 t refusals (ltb-true t (length refusals) is) ∙ ap (λ u. by u es) n
        by_test false is = let le = ltb-false t (length refusals) is in log_past es 0 t refusals le ∙ sym (nobody (length refusals) t es within le)
