-- From what the main thread knows to the whole run.
use Rattle.std.proofs.Common.{◌≡◌, ℕ, zero, suc, ◌==◌, ◌||◌, Bool, true, false, not, cond, List, [], ◌∷◌, ◌++◌, map, filter, slice_get, Option, Some, None, is_none, ◌⊎◌, inl, inr, refl, sym, ap, subst, ◌∙◌, true≢false}
use Rattle.std.proofs.lemmas.Bool.{eqb-true, eq-eqb}
use Rattle.rb_model.specs.Ends.{End as Ending}
use Rattle.rb_model.specs.Private.{Private}
use Rattle.rb_model.specs.declared.value.Id.{Id}
use Rattle.rb_model.specs.Values.{Value as Val, Reference}
use Rattle.rb_model.specs.Acts.{Reply, Started}
use Rattle.rb_model.specs.Acts as reply
use Rattle.rb_model.specs.Log.{Log, Entry, Call, On, Start, Gather, Print, End}
use Rattle.rb_model.specs.Started.{started, started_by}
use Rattle.rb_shared.specs.Lists.{Has, Each}
use Rattle.rb_shared.specs.History.{Event, Placed, History, IsLegal, IsStarted, EndsOnce, is_event, is_read, moves_none, ArePoints, is_at, reads_at, all_reads_at, merged, merge, by, entries_of}
use Rattle.rb_shared.specs.Threads.{ThreadLog, AllGathered}
use Rattle.rb_shared.specs.Closing.{Shows}
use Rattle.rb_shared.specs.View.{View, own_log, known_logs}
use Rattle.rb_shared.proofs.Runs.{has_front, has_behind, each_has}
use Rattle.shape_core.specs.Shape.{Shape}
use Rattle.rb_machine.specs.Scopes.{Script}
use Rattle.rb_machine.specs.Control.{State}
use Rattle.rb_machine.specs.Follows.{Follows, closes, late, full}
use Rattle.rb_thread.specs.Family.{Job, Main, Body, jobs, job_by, Does, Fresh, Ran}
use Rattle.rb_thread.specs.Alive.{Left}
use Rattle.thread_run.specs.Run.{IsJobOf, EachFollows, EndsWith, MainEnds, IsFirst}

-- ---- an entry of a log that is an event stands in the history

pub some_is : {X : Type 0} (x y : X) → Some x ≡ Some y → x ≡ y
some_is x y e = ap (λ (o : Option _). pick x o) e where
  pick : {X : Type 0} → X → Option X → X
  pick d None = d
  pick d (Some z) = z

-- an entry of one thread is that of an event of this thread
picked : (t : ℕ) (b : Bool) (x : Event) (es : List Event) (e : Entry) → (x.thread == t) ≡ b → (Has (by t es) e → Has es (record { thread = t; entry = e }))
    → Has (map (λ (y : Event). y.entry) (cond b (x ∷ filter (λ (y : Event). y.thread == t) es) (filter (λ (y : Event). y.thread == t) es))) e → Has (x ∷ es) (record { thread = t; entry = e })
picked t true x es e is more (inl q) = let same = eqb-true x.thread t is in inl (λ i. record { thread = sym same i; entry = q i })
picked t true x es e is more (inr h) = inr (more h)
picked t false x es e is more h = inr (more h)

pub has_by : (t : ℕ) (es : List Event) (e : Entry) → Has (by t es) e → Has es (record { thread = t; entry = e })
has_by t [] e h = absurd h
has_by t (x ∷ es) e h = picked t (x.thread == t) x es e refl (has_by t es e) h

-- the reads at a point are no events
none_here : (k t : ℕ) (b : Bool) (e : Entry) (p : Option ℕ) (es : List Entry) (ps : List (Option ℕ)) (x : Event) → is_at k p ≡ b → is_event e ≡ is_none p
    → (Has (reads_at k t es ps) x → is_event x.entry ≡ false) → Has (cond b (record { thread = t; entry = e } ∷ reads_at k t es ps) (reads_at k t es ps)) x → is_event x.entry ≡ false
none_here k t true e None es ps x at is more h = absurd (true≢false (sym at))
none_here k t true e (Some n) es ps x at is more (inl q) = ap (λ (y : Event). is_event y.entry) q ∙ is
none_here k t true e (Some n) es ps x at is more (inr h) = more h
none_here k t false e p es ps x at is more h = more h

no_event : (k t : ℕ) (es : List Entry) (ps : List (Option ℕ)) (x : Event) → ArePoints es ps → Has (reads_at k t es ps) x → is_event x.entry ≡ false
no_event k t [] [] x a h = absurd h
no_event k t [] (p ∷ ps) x a h = absurd h
no_event k t (e ∷ es) [] x a h = absurd h
no_event k t (e ∷ es) (p ∷ ps) x (a, more) h = none_here k t (is_at k p) e p es ps x refl a (no_event k t es ps x more) h

pub has_either : {X : Type 0} (xs ys : List X) (x : X) → Has (xs ++ ys) x → Has xs x ⊎ Has ys x
has_either [] ys x h = inr h
has_either (w ∷ xs) ys x (inl e) = inl (inl e)
has_either (w ∷ xs) ys x (inr h) = elim (has_either xs ys x h) [
  | inl i ↦ inl (inr i)
  | inr i ↦ inr i
]

no_events : (k t : ℕ) (ps : List Placed) (x : Event) → Each (λ (p : Placed). ArePoints p.log.entries p.points) ps → Has (all_reads_at k t ps) x → is_event x.entry ≡ false
no_events k t [] x a h = absurd h
no_events k t (p ∷ ps) x (a, more) h = elim (has_either (reads_at k t p.log.entries p.points) (all_reads_at k (suc t) ps) x h) [
  | inl i ↦ no_event k t p.log.entries p.points x a i
  | inr i ↦ no_events k (suc t) ps x more i
]

later : {X : Type 0} (e : X) (xs ys : List X) (x : X) → (Has xs x → Has ys x) → Has (e ∷ xs) x → Has (e ∷ ys) x
later e xs ys x more (inl q) = inl q
later e xs ys x more (inr h) = inr (more h)

pub in_events : (k : ℕ) (es : List Event) (ps : List Placed) (x : Event) → Each (λ (p : Placed). ArePoints p.log.entries p.points) ps → is_event x.entry ≡ true → Has (merged k es ps) x → Has es x
in_events k [] ps x a is h = absurd (true≢false (sym is ∙ no_events k 0 ps x a h))
in_events k (e ∷ es) ps x a is h = elim (has_either (all_reads_at k 0 ps) (e ∷ merged (suc k) es ps) x h) [
  | inl i ↦ absurd (true≢false (sym is ∙ no_events k 0 ps x a i))
  | inr i ↦ later e (merged (suc k) es ps) es x (in_events (suc k) es ps x a is) i
]

-- ---- the start of a thread

-- An entry that starts thread n: its call is a start, and that number is answered.
abbrev pub IsStartOf : ℕ → Entry → Type 0
IsStartOf n e = (id : Id) × (body : ℕ) × (values : List Val) × (thread : Reference) × (e.call ≡ Start id body values) × (e.reply ≡ Started n thread)

starts : (c : Call) (r : Reply) (n : ℕ) (t : Reference) → Has (started_by c r) (n, t) → (id : Id) × (body : ℕ) × (values : List Val) × (thread : Reference) × (c ≡ Start id body values) × (r ≡ Started n thread)
starts (Start id body values) (Started number thread) n t (inl q) = (id, body, values, thread, refl, ap (λ (p : ℕ × Reference). Started p.0 thread) (sym q))
starts (Start id body values) (Started number thread) n t (inr h) = absurd h
starts (Start id body values) (reply.Value v) n t h = absurd h
starts (Start id body values) (reply.Elements vs) n t h = absurd h
starts (Start id body values) (reply.Pairs ps) n t h = absurd h
starts (Start id body values) reply.Done n t h = absurd h
starts (Start id body values) (reply.Ended how) n t h = absurd h
starts (Start id body values) (reply.Failed fault) n t h = absurd h
starts (On thing act) r n t h = absurd h
starts (Gather thread) r n t h = absurd h
starts (Print bytes) r n t h = absurd h
starts (End how) r n t h = absurd h

-- a thread that was started, by an entry of a log
start_in : (es : List Entry) (n : ℕ) (t : Reference) → Has (started es) (n, t) → (e : Entry) × Has es e × IsStartOf n e
start_in [] n t h = absurd h
start_in (e ∷ es) n t h = elim (has_either (started_by e.call e.reply) (started es) (n, t) h) [
  | inl i ↦ (e, inl refl, starts e.call e.reply n t i)
  | inr i ↦ let m = start_in es n t i in (m.0, inr m.1, m.2)
]

-- an entry of events is that of one of them
event_of : (es : List Event) (e : Entry) → Has (map (λ (y : Event). y.entry) es) e → (x : Event) × Has es x × (e ≡ x.entry)
event_of [] e h = absurd h
event_of (x ∷ es) e (inl q) = (x, inl refl, q)
event_of (x ∷ es) e (inr h) = let m = event_of es e h in (m.0, inr m.1, m.2)

-- it gives its thread the job
gives_job : (e : Entry) (n : ℕ) (s : IsStartOf n e) → Has (job_by e.call e.reply) (Body n s.1 s.2)
gives_job e n s = subst (λ c. Has (job_by c e.reply) (Body n s.1 s.2)) (sym s.4) (subst (λ r. Has (job_by (Start s.0 s.1 s.2) r) (Body n s.1 s.2)) (sym s.5) (inl refl))

has_job : (es : List Entry) (e : Entry) (j : Job) → Has es e → Has (job_by e.call e.reply) j → Has (jobs es) j
has_job [] e j h k = absurd h
has_job (x ∷ es) e j (inl q) k = has_front (job_by x.call x.reply) (jobs es) j (subst (λ (o : Entry). Has (job_by o.call o.reply) j) q k)
has_job (x ∷ es) e j (inr h) k = has_behind (job_by x.call x.reply) (jobs es) j (has_job es e j h k)

-- ---- what each thread did

pub split_at : {X : Type 0} (xs : List X) (x : X) → Has xs x → (front : List X) × (behind : List X) × (xs ≡ front ++ x ∷ behind)
split_at [] x h = absurd h
split_at (y ∷ xs) x (inl q) = ([], xs, ap (λ z. z ∷ xs) (sym q))
split_at (y ∷ xs) x (inr h) = let s = split_at xs x h in (y ∷ s.0, s.1, ap (λ zs. y ∷ zs) s.2)

pub has_got : {X : Type 0} (xs : List X) (n : ℕ) (x : X) → slice_get xs n ≡ Some x → Has xs x
has_got [] n x e = absurd (let q : None ≡ Some x = e in cc)
has_got (y ∷ xs) zero x e = inl (sym (some_is y x e))
has_got (y ∷ xs) (suc n) x e = inr (has_got xs n x e)

-- the entry of an event is one of its thread
own_here : (t : ℕ) (b : Bool) (y : Event) (es : List Event) → b ≡ true
    → Has (map (λ (z : Event). z.entry) (cond b (y ∷ filter (λ (z : Event). z.thread == t) es) (filter (λ (z : Event). z.thread == t) es))) y.entry
own_here t true y es e = inl refl
own_here t false y es e = absurd (true≢false (sym e))

own_more : (t : ℕ) (b : Bool) (y : Event) (es : List Event) (e : Entry) → Has (by t es) e
    → Has (map (λ (z : Event). z.entry) (cond b (y ∷ filter (λ (z : Event). z.thread == t) es) (filter (λ (z : Event). z.thread == t) es))) e
own_more t true y es e h = inr h
own_more t false y es e h = h

has_own : (es : List Event) (x : Event) → Has es x → Has (by x.thread es) x.entry
has_own [] x h = absurd h
has_own (y ∷ es) x (inl q) = subst (λ (z : Event). Has (by z.thread (y ∷ es)) z.entry) (sym q) (own_here y.thread (y.thread == y.thread) y es (eq-eqb y.thread y.thread refl))
has_own (y ∷ es) x (inr h) = own_more x.thread (y.thread == x.thread) y es x.entry (has_own es x h)

placed_at : (o : Option Placed) (e : Entry) → Has (entries_of o) e → (p : Placed) × (o ≡ Some p) × Has p.log.entries e
placed_at None e h = absurd h
placed_at (Some p) e h = (p, refl, h)

-- the log of the thread of an event has its entry
pub stands_in : (slots : ℕ) (h : History) (x : Event) → IsLegal slots h → Has (merge h) x → (p : Placed) × (slice_get h.threads x.thread ≡ Some p) × Has p.log.entries x.entry
stands_in slots h x l has = placed_at (slice_get h.threads x.thread) x.entry (subst (λ es. Has es x.entry) (l.logs x.thread) (has_own (merge h) x has))

-- a thread of the history is the main one, or was started by an event
has_begun : (slots : ℕ) (h : History) (n : ℕ) (p : Placed) → IsLegal slots h → slice_get h.threads n ≡ Some p → (n ≡ 0) ⊎ ((x : Event) × Has (merge h) x × IsStartOf n x.entry)
has_begun slots h n p l at =
    let once = each_has (λ (q : Placed). EndsOnce q.log.entries) h.threads p l.ends (has_got h.threads n p at) in
    let last : Event = record { thread = n; entry = once.1 } in
    let own : by n (merge h) ≡ p.log.entries = l.logs n ∙ ap entries_of at in
    let ends : Has p.log.entries once.1 = subst (λ es. Has es once.1) (sym once.3) (has_behind once.0 (once.1 ∷ []) once.1 (inl refl)) in
    let there : Has (merge h) last = has_by n (merge h) once.1 (subst (λ es. Has es once.1) (sym own) ends) in
    let s = split_at (merge h) last there in elim (l.begun s.0 s.1 last s.2) [
      | inl zero_is ↦ inl zero_is
      | inr b ↦ let e = start_in (map (λ (y : Event). y.entry) s.0) n b.0 b.1 in
          let x = event_of s.0 e.0 e.1 in
          inr (x.0, subst (λ es. Has es x.0) (sym s.2) (has_front s.0 (last ∷ s.1) x.0 x.1), subst (IsStartOf n) x.2 e.2)
    ]

-- what is known of an ended thread is its log in the history
known_log : (h : History) (ts : List ThreadLog) (t : ThreadLog) (n : ℕ) (p : Placed) → Shows h ts → Has ts t → t.ended ≡ true → t.thread ≡ n → slice_get h.threads n ≡ Some p → t.log ≡ p.log
known_log h ts t n p s has ended is at =
    let k = s.known t has ended in
    let same : k.0 ≡ p = some_is k.0 p (sym k.1 ∙ (ap (λ i. slice_get h.threads i) is ∙ at)) in
    sym k.2 ∙ ap (λ (x : Placed). x.log) same

-- the event that started thread n says its start
is_started : (slots : ℕ) (h : History) (n : ℕ) (x : Event) → IsLegal slots h → Has (merge h) x → (s : IsStartOf n x.entry) → IsStarted h n s.1 s.2
is_started slots h n x l has s =
    let is : is_event x.entry ≡ true = ap (λ c. not (is_read c) || not (moves_none x.entry.moved)) s.4 in
    let there : Has h.events x = in_events 0 h.events h.threads x l.points is has in
    let called = subst (λ c. Has h.events (record { thread = x.thread; entry = record { step = x.entry.step; call = c; moved = x.entry.moved; reply = x.entry.reply } })) s.4 there in (
      x.thread,
      x.entry.step,
      s.0,
      x.entry.moved,
      s.3,
      subst (λ r. Has h.events (record { thread = x.thread; entry = record { step = x.entry.step; call = Start s.0 s.1 s.2; moved = x.entry.moved; reply = r } })) s.5 called,
    )

-- a thread that was started did its job
started_follows : (slots : ℕ) (S : Script) (N n : ℕ) (v : View) (h : History) (p : Placed) (x : Event) → Ran S N Main v → IsLegal slots h → Shows h (known_logs v)
    → slice_get h.threads n ≡ Some p → Has (merge h) x → IsStartOf n x.entry → (j : Job) × IsJobOf h n j × Does S N j p.log
started_follows slots S N n v h p x r l s at has start =
    let maker = stands_in slots h x l has in
    let t = s.all x.thread maker.0 maker.1 in
    let log = known_log h (known_logs v) t.0 x.thread maker.0 s t.1 t.3 t.2 maker.1 in
    let entry : Has t.0.log.entries x.entry = subst (λ (o : Log). Has o.entries x.entry) (sym log) maker.2 in
    let j : Job = Body n start.1 start.2 in
    let done = r.accounted t.0 t.1 t.3 j (has_job t.0.log.entries x.entry j entry (gives_job x.entry n start)) in
    let own = known_log h (known_logs v) done.0 n p s done.1 done.3 done.2 at in
    (j, (refl, is_started slots h n x l has start), subst (Does S N j) own done.4)

pub each_follows : (slots : ℕ) (S : Script) (N : ℕ) (v : View) (h : History) → Ran S N Main v → IsLegal slots h → Shows h (known_logs v) → EachFollows S N h
each_follows slots S N v h r l s n p at = elim (has_begun slots h n p l at) [
  | inl zero_is ↦ let own = known_log h (known_logs v) (own_log v) n p s (inl refl) r.ended (r.thread_is ∙ sym zero_is) at in (Main, zero_is, subst (Does S N Main) own r.does)
  | inr b ↦ started_follows slots S N n v h p b.0 r l s at b.1 b.2
]

-- ---- the main thread

pub ends_with : (S : Script) (N : ℕ) (start : State) (l : Log) (how : Ending) (h : Private) → Follows S N start l how h → EndsWith l.entries how
ends_with S N start _ _ _ (closes l l' h h' own e n lacking moved c t g) = (l'.entries, _, refl, refl)
ends_with S N start _ _ _ (late l l' h own v n c t) = (l'.entries, _, refl, refl)
ends_with S N start _ _ _ (full l l' h h' own v n used asked moved c t g) = (l'.entries, _, refl, refl)

pub main_ends : (S : Script) (N : ℕ) (v : View) (h : History) (how : Ending) (shapes : List Shape) → Left S N Main shapes v how → Shows h (known_logs v) → MainEnds S N h how shapes
main_ends S N v h how shapes left s =
    let k = s.known (own_log v) (inl refl) left.ran.ended in
    let follows = subst (λ l. Follows S N (Rattle.rb_machine.specs.Alone.opening S N) l how left.store) (sym k.2) left.follows in
    record {
      thread = k.0;
      first = ap (λ i. slice_get h.threads i) (sym left.ran.thread_is) ∙ k.1;
      store = left.store;
      follows = follows;
      ends = ends_with S N (Rattle.rb_machine.specs.Alone.opening S N) k.0.log how left.store follows;
      whose = left.whose;
      shaped = left.shaped;
    }

pub all_gathered : (S : Script) (N : ℕ) (j : Job) (v : View) → Ran S N j v → AllGathered (known_logs v)
all_gathered S N j v r t h e n thread i =
    let m = start_in t.log.entries n thread i in
    let k : Job = Body n m.2.1 m.2.2 in
    let done = r.accounted t h e k (has_job t.log.entries m.0 k m.1 (gives_job m.0 n m.2)) in
    (done.0, done.1, done.2, done.3)

-- ---- the first pass

pub first_fresh : (S : Script) (N : ℕ) (v : View) → IsFirst v → Fresh S N Main v
first_fresh S N v f = subst (Fresh S N Main) (sym f.1) record {
  thread_is = refl;
  going = refl;
  log_is = refl;
  accounted = λ t h e. elim h [
    | inl i ↦ absurd (let q : false ≡ true = sym (ap (λ (x : ThreadLog). x.ended) i) ∙ e in cc)
    | inr i ↦ absurd i
  ];
  globals = inl refl;
}
