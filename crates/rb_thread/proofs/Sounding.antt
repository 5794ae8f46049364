-- What holds of the pass of a thread, and of the threads that it started, goes on to hold.
use Rattle.std.proofs.Common.{◌≡◌, ℕ, suc, zero, true, false, List, [], ◌∷◌, ◌++◌, map, set, Some, None, inl, inr, refl, sym, ap, subst, ◌∙◌, slice_get, append-nil}
use Rattle.rb_model.specs.declared.value.Id.{Id}
use Rattle.rb_model.specs.declared.value.Ref.{Ref}
use Rattle.rb_model.specs.declared.value.Sort.TheVariants as sort
use Rattle.rb_model.specs.declared.act.Reply.{Reply as Answered}
use Rattle.rb_model.specs.declared.call.Call.{Call as Held}
use Rattle.rb_model.specs.declared.moved.MovedItem.{MovedItem}
use Rattle.rb_model.specs.Values.{Reference}
use Rattle.rb_model.specs.Acts.{Reply}
use Rattle.rb_model.specs.Doing.{said}
use Rattle.rb_model.specs.Immediates.{reference}
use Rattle.rb_model.specs.Moving.{ref_of, refs_in_reply}
use Rattle.rb_model.specs.Log.{Log, Call, asked, is_end}
use Rattle.rb_model.specs.Started.{started, started_by, ungathered, after_entries, next_thread, thread_id, to_thread, without}
use Rattle.rb_shared.specs.declared.answer.Answer.{Answer}
use Rattle.rb_shared.specs.declared.answer.Answer.TheVariants as answer
use Rattle.rb_shared.specs.Lists.{Has}
use Rattle.rb_shared.specs.Threads.{ThreadLog}
use Rattle.rb_shared.specs.Asking.{Knows, WasTold}
use Rattle.rb_shared.specs.Answers.{entry_of}
use Rattle.rb_shared.specs.View.{View, own_log, known_logs, joined_view, polled_view, rested_view, to_globals}
use Rattle.rb_machine.specs.Scopes.{Script}
use Rattle.rb_thread.specs.Family.{Job, job_by, jobs, number_of, Accounted, HasDone, Ran}
use Rattle.rb_thread.specs.Kins.{Kin, kin, names, waits, childless, done, ArePlaced, AreSettled, Changes, one, none_is}
use Rattle.rb_thread.specs.Seats as seats
use Rattle.rb_thread.specs.Handing.{refs_told}
use Rattle.rb_thread.specs.Alive.{Sound}
use Rattle.rb_thread.proofs.Lines.{names_childless, names_done, placed_childless, placed_done, placed_at, waits_childless, waits_done, waits_without_other, has_set, named_at, some_same, get_names, get_set_cases, get_changed}
use Rattle.rb_thread.proofs.Entries.{has_left, has_right, has_cases, started_more, after_more, jobs_more, quiet_jobs, job_at, IsQuiet, quiet_started, quiet_after, Goes, goes_answered}

-- ---- us has each whole log that ts has
abbrev pub Covers : List ThreadLog → List ThreadLog → Type 0
Covers ts us = (t : ThreadLog) → Has ts t → t.ended ≡ true → Has us t

pub done_more : (S : Script) (N : ℕ) (ts us : List ThreadLog) (j : Job) → Covers ts us → HasDone S N ts j → HasDone S N us j
done_more S N ts us j k h = (h.0, k h.0 h.1 h.3, h.2, h.3, h.4)

pub accounted_more : (S : Script) (N : ℕ) (ts us : List ThreadLog) (t : ThreadLog) → Covers ts us → Accounted S N ts t → Accounted S N us t
accounted_more S N ts us t k a j h = done_more S N ts us j k (a j h)

not_ended : (w : View) (t : ThreadLog) → w.ended ≡ false → t ≡ own_log w → t.ended ≡ true → ⊥
not_ended w t live e q = let f : true ≡ false = sym q ∙ (ap (λ (x : ThreadLog). x.ended) e ∙ live) in cc

-- a view that goes on covers all that was known
pub covers_goes : (v w : View) → v.ended ≡ false → Goes v w → Covers (known_logs v) (known_logs w)
covers_goes v w live g t (inl e) q = absurd (not_ended v t live e q)
covers_goes v w live g t (inr h) q = inr (subst (λ x. Has x t) (sym g.told) h)

-- the job of the one at a place
pub kin_job : {Q : Type 0} {S : Script} {N : ℕ} {j : Job} {v : View} {ks : List (Kin Q)} (i : ℕ) (x : Kin Q) → Sound S N j v ks → slice_get ks i ≡ Some x
    → (k : Job) × (slice_get (jobs v.log.entries) i ≡ Some k) × (number_of k ≡ x.number)
kin_job {v = v} {ks = ks} i x s e = job_at v.log.entries i x.number (reference x.thing) (subst (λ ns. slice_get ns i ≡ Some (x.number, reference x.thing)) s.named (get_names ks i x e))

abbrev pub KnowsKins : {Q : Type 0} → View → List (Kin Q) → Type 0
KnowsKins {Q = Q} v ks = (x : Kin Q) → Has ks x → Knows v x.thing × (x.thing.sort ≡ sort.Thread)

-- while the thread goes on
pub sound_on : {Q : Type 0} (S : Script) (N : ℕ) (j : Job) (v w : View) (ks ls : List (Kin Q)) → Sound S N j v ks → Goes v w
    → names ls ≡ started w.log.entries → ArePlaced v.thread 0 ls → waits ls ≡ ungathered w.log → KnowsKins w ls
    → ((i : ℕ) (x : Kin Q) (k : Job) → slice_get ls i ≡ Some x → slice_get (jobs w.log.entries) i ≡ Some k → x.child ≡ None → HasDone S N v.told k)
    → Sound S N j w ls
sound_on S N j v w ks ls s g ns pl ws kn settled = record {
  going = g.going s.going;
  polled = g.polled s.polled;
  thread_is = g.thread ∙ s.thread_is;
  accounted = λ t h q. elim h [
    | inl e ↦ absurd (not_ended w t (g.going s.going) e q)
    | inr k ↦ accounted_more S N (known_logs v) (known_logs w) t (covers_goes v w s.going g) (s.accounted t (inr (subst (λ x. Has x t) g.told k)) q)
  ];
  globals = g.known to_globals s.globals;
  named = ns;
  placed = subst (λ t. ArePlaced t 0 ls) (sym g.thread) pl;
  waiting = ws;
  known = kn;
  settled = λ i x k e f c. subst (λ y. HasDone S N y k) (sym g.told) (settled i x k e f c);
}

kins_go : {Q : Type 0} (v w : View) (ks : List (Kin Q)) → Goes v w → KnowsKins v ks → KnowsKins w ks
kins_go v w ks g k x h = let y = k x h in (g.known x.thing y.0, y.1)

-- with the same threads
pub sound_same : {Q : Type 0} (S : Script) (N : ℕ) (j : Job) (v w : View) (ks : List (Kin Q)) → Sound S N j v ks → Goes v w
    → started w.log.entries ≡ started v.log.entries → ungathered w.log ≡ ungathered v.log → jobs w.log.entries ≡ jobs v.log.entries → Sound S N j w ks
sound_same S N j v w ks s g st un jb = sound_on S N j v w ks ks s g (s.named ∙ sym st) s.placed (s.waiting ∙ sym un) (kins_go v w ks g s.known)
    (λ i x k e f c. s.settled i x k e (subst (λ js. slice_get js i ≡ Some k) jb f) c)

-- an answer to a call that starts none and gathers none
abbrev pub QuietAnswer : Held → Answer → Type 0
QuietAnswer c (answer.Done r) = IsQuiet (asked c) (said r)
QuietAnswer c a = Unit {0}

pub quiet_logs : (v w : View) (n : ℕ) (c : Held) (ms : List MovedItem) (a : Answer) (ms' : List MovedItem) → QuietAnswer c a → seats.Answered v n c ms a ms' w
    → (started w.log.entries ≡ started v.log.entries) × (ungathered w.log ≡ ungathered v.log) × (jobs w.log.entries ≡ jobs v.log.entries)
quiet_logs v w n c ms (answer.Done r) ms' q x =
    let e = entry_of n c ms (said r) in
    let l = ap (λ (y : View). y.log.entries) x.0 in
    (ap started l ∙ quiet_started v.log.entries e q, ap (after_entries []) l ∙ quiet_after v.log.entries e q, ap jobs l ∙ quiet_jobs v.log.entries e q)
quiet_logs v w n c ms (answer.Full used wanted) ms' q x = let l = ap (λ (y : View). y.log.entries) x.0 in (ap started l, ap (after_entries []) l, ap jobs l)
quiet_logs v w n c ms answer.SinkFailed ms' q x = let l = ap (λ (y : View). y.log.entries) x.0 in (ap started l, ap (after_entries []) l, ap jobs l)
quiet_logs v w n c ms answer.Memory ms' q x = let l = ap (λ (y : View). y.log.entries) x.0 in (ap started l, ap (after_entries []) l, ap jobs l)

pub sound_quiet : {Q : Type 0} (S : Script) (N : ℕ) (j : Job) (v w : View) (ks : List (Kin Q)) (n : ℕ) (c : Held) (ms : List MovedItem) (a : Answer) (ms' : List MovedItem) → Sound S N j v ks → is_end (asked c) ≡ false
    → QuietAnswer c a → seats.Answered v n c ms a ms' w → Sound S N j w ks
sound_quiet S N j v w ks n c ms a ms' s e q x =
    let l = quiet_logs v w n c ms a ms' q x in
    sound_same S N j v w ks s (goes_answered v w n c ms a ms' e x) l.0 l.1 l.2

-- what an answer tells is known then
pub knows_told : (v w : View) (n : ℕ) (c : Held) (ms : List MovedItem) (a : Answer) (ms' : List MovedItem) (r : Ref) → seats.Answered v n c ms a ms' w → Has (refs_told a) r → Knows w r
knows_told v w n c ms (answer.Done s) ms' r x h =
    subst (λ (y : View). Knows y r) (sym x.0) (has_right v.known (refs_in_reply s ++ map ref_of ms') r (has_left (refs_in_reply s) (map ref_of ms') r h))
knows_told v w n c ms (answer.Full used wanted) ms' r x h = absurd h
knows_told v w n c ms answer.SinkFailed ms' r x h = absurd h
knows_told v w n c ms answer.Memory ms' r x h = absurd h

joined_covers : (v u w : View) → v.ended ≡ false → w.told ≡ v.told ++ known_logs u → Covers (known_logs v) (known_logs w)
joined_covers v u w live told t (inl e) q = absurd (not_ended v t live e q)
joined_covers v u w live told t (inr h) q = inr (subst (λ x. Has x t) (sym told) (has_left v.told (known_logs u) t h))

joined_covers_other : (v u w : View) → w.told ≡ v.told ++ known_logs u → Covers (known_logs u) (known_logs w)
joined_covers_other v u w told t h q = inr (subst (λ x. Has x t) (sym told) (has_right v.told (known_logs u) t h))

covers_left : (ts us : List ThreadLog) → Covers ts (ts ++ us)
covers_left ts us t h q = has_left ts us t h

pub sound_joined : {Q : Type 0} (S : Script) (N : ℕ) (j : Job) (v u w : View) (ks : List (Kin Q)) (k : ℕ) (x : Kin Q) (job : Job) → Sound S N j v ks → slice_get ks k ≡ Some x → slice_get (jobs v.log.entries) k ≡ Some job → Ran S N job u
    → w ≡ joined_view (polled_view (rested_view v)) u → Sound S N j w (set ks k (childless x))
sound_joined S N j v u w ks k x job s e at r is =
    let live = ap (λ (y : View). y.ended) is ∙ s.going in
    let th = ap (λ (y : View). y.thread) is in
    let lg = ap (λ (y : View). y.log) is in
    let told = ap (λ (y : View). y.told) is in
    let kn = ap (λ (y : View). y.known) is in
    let cover = joined_covers v u w s.going told in
    record {
      going = live;
      polled = ap (λ (y : View). y.polled) is;
      thread_is = th ∙ s.thread_is;
      accounted = λ t h q. elim h [
        | inl i ↦ absurd (not_ended w t live i q)
        | inr i ↦ elim (has_cases v.told (known_logs u) t (subst (λ y. Has y t) told i)) [
          | inl o ↦ accounted_more S N (known_logs v) (known_logs w) t cover (s.accounted t (inr o) q)
          | inr o ↦ accounted_more S N (known_logs u) (known_logs w) t (joined_covers_other v u w told) (r.accounted t o q)
        ]
      ];
      globals = subst (λ rs. Has rs to_globals) (sym kn) (has_left v.known u.known to_globals s.globals);
      named = names_childless ks k x e ∙ (s.named ∙ ap (λ (y : Log). started y.entries) (sym lg));
      placed = subst (λ t. ArePlaced t 0 (set ks k (childless x))) (sym th) (placed_childless v.thread 0 ks k x e s.placed);
      waiting = waits_childless ks k x e ∙ (s.waiting ∙ ap ungathered (sym lg));
      known = λ y h. elim (has_set ks k x (childless x) y e h) [
        | inl i ↦ (subst (λ rs. Has rs y.thing) (sym kn) (has_left v.known u.known y.thing (s.known y i).0), (s.known y i).1)
        | inr i ↦ (let same : x.thing ≡ y.thing = ap (λ (o : Kin _). o.thing) (sym i.0) in
            let was = s.known x i.1 in
            (subst (λ rs. Has rs y.thing) (sym kn) (has_left v.known u.known y.thing (subst (λ o. Has v.known o) same was.0)), ap (λ (o : Ref). o.sort) (sym same) ∙ was.1))
      ];
      settled = λ i y m f g c.
          let g' = subst (λ (o : Log). slice_get (jobs o.entries) i ≡ Some m) lg g in
          subst (λ ts. HasDone S N ts m) (sym told) (elim (get_set_cases ks k i x (childless x) y e f) [
            | inl h ↦ (let same : job ≡ m = some_same job m (sym at ∙ subst (λ o. slice_get (jobs v.log.entries) o ≡ Some m) h.0 g') in
                subst (HasDone S N (v.told ++ known_logs u)) same (own_log u, has_right v.told (known_logs u) (own_log u) (inl refl), r.thread_is, r.ended, r.does))
            | inr h ↦ done_more S N v.told (v.told ++ known_logs u) m (covers_left v.told (known_logs u)) (s.settled i y m h g' c)
          ]);
    }

same_child : {Q : Type 0} (x : Kin Q) → x.child ≡ None → x ≡ childless x
same_child x e = ap (λ c. kin x.number x.thing c x.gathered) e

pub set_same : {Q : Type 0} (ks : List (Kin Q)) (k : ℕ) (x : Kin Q) → slice_get ks k ≡ Some x → x.child ≡ None → set ks k (childless x) ≡ ks
set_same [] k x e c = cc
set_same (y ∷ ks) zero x e c = let q : y ≡ x = cc in ap (λ m. m ∷ ks) (sym (q ∙ same_child x c))
set_same (y ∷ ks) (suc k) x e c = ap (λ m. y ∷ m) (set_same ks k x e c)

-- ---- the end of a thread is taken over

-- what is told of a thread whose child is taken out
pub was_told : {Q : Type 0} {S : Script} {N : ℕ} {j : Job} (v : View) (ks : List (Kin Q)) (id : Id) → Sound S N j v ks → AreSettled id ks → WasTold v id
was_told v ks id s a n r h e =
    let q = named_at ks n r (subst (λ y. Has y (n, r)) (sym s.named) h) in
    let none = a q.0 q.1 q.2 (ap (λ (o : Reference). o.id) q.4 ∙ e) in
    let job = kin_job q.0 q.1 s q.2 in
    let d = s.settled q.0 q.1 job.0 q.2 job.1 none in
    (d.0, d.1, d.2 ∙ (job.2 ∙ q.3), d.3)

-- an entry takes the end of the thread of an id over
abbrev pub TakesOver : Call → Reply → Id → Type 0
TakesOver c r id = (started_by c r ≡ []) × ((rs : List Reference) → Rattle.rb_model.specs.Started.after_call rs c r ≡ without id rs) × (job_by c r ≡ [])

waits_changed : {Q : Type 0} (t : ℕ) (ks ls : List (Kin Q)) (id : Id) → ArePlaced t 0 ks → Changes done id ks ls → waits ls ≡ without id (waits ks)
waits_changed t ks ls id p (one k x e i q) =
    ap waits q ∙ (waits_done t 0 ks k x e p ∙ ap (λ o. without o (waits ks)) (sym (placed_at t 0 ks k x e p) ∙ i))
waits_changed t ks ls id p (none_is other q) = ap waits q ∙ sym (waits_without_other ks id other)

names_changed : {Q : Type 0} (ks ls : List (Kin Q)) (id : Id) → Changes done id ks ls → names ls ≡ names ks
names_changed ks ls id (one k x e i q) = ap names q ∙ names_done ks k x e
names_changed ks ls id (none_is other q) = ap names q

placed_changed : {Q : Type 0} (t : ℕ) (ks ls : List (Kin Q)) (id : Id) → ArePlaced t 0 ks → Changes done id ks ls → ArePlaced t 0 ls
placed_changed t ks ls id p (one k x e i q) = subst (ArePlaced t 0) (sym q) (placed_done t 0 ks k x e p)
placed_changed t ks ls id p (none_is other q) = subst (ArePlaced t 0) (sym q) p

-- each that is there was there, but for whether it was gathered
pub has_changed : {Q : Type 0} (ks ls : List (Kin Q)) (id : Id) (y : Kin Q) → Changes done id ks ls → Has ls y → (z : Kin Q) × Has ks z × (z.number ≡ y.number) × (z.thing ≡ y.thing) × (z.child ≡ y.child)
has_changed ks ls id y (one k x e i q) h = elim (has_set ks k x (done x) y e (subst (λ m. Has m y) q h)) [
  | inl o ↦ (y, o, refl, refl, refl)
  | inr o ↦ (x, o.1, ap (λ (m : Kin _). m.number) (sym o.0), ap (λ (m : Kin _). m.thing) (sym o.0), ap (λ (m : Kin _). m.child) (sym o.0))
]
has_changed ks ls id y (none_is other q) h = (y, subst (λ m. Has m y) q h, refl, refl, refl)

pub taken_jobs : (v w : View) (n : ℕ) (c : Held) (r : Answered) (id : Id) → TakesOver (asked c) (said r) id → seats.Answered v n c [] (answer.Done r) [] w → jobs w.log.entries ≡ jobs v.log.entries
taken_jobs v w n c r id t x =
    let d = entry_of n c [] (said r) in
    ap (λ (y : View). jobs y.log.entries) x.0 ∙ (jobs_more v.log.entries d ∙ (ap (λ o. jobs v.log.entries ++ o) t.2 ∙ append-nil (jobs v.log.entries)))

pub sound_taken : {Q : Type 0} (S : Script) (N : ℕ) (j : Job) (v w : View) (ks ls : List (Kin Q)) (n : ℕ) (c : Held) (r : Answered) (id : Id) → Sound S N j v ks → is_end (asked c) ≡ false → TakesOver (asked c) (said r) id
    → seats.Answered v n c [] (answer.Done r) [] w → Changes done id ks ls → Sound S N j w ls
sound_taken S N j v w ks ls n c r id s e t x ch =
    let g = goes_answered v w n c [] (answer.Done r) [] e x in
    let d = entry_of n c [] (said r) in
    let l = ap (λ (y : View). y.log.entries) x.0 in
    sound_on S N j v w ks ls s g
    (names_changed ks ls id ch ∙ (s.named ∙ sym (ap started l ∙ (started_more v.log.entries d ∙ (ap (λ y. started v.log.entries ++ y) t.0 ∙ append-nil (started v.log.entries))))))
    (placed_changed v.thread ks ls id s.placed ch)
    (waits_changed v.thread ks ls id s.placed ch ∙ (ap (without id) s.waiting ∙ sym (ap (after_entries []) l ∙ (after_more [] v.log.entries d ∙ t.1 (ungathered v.log)))))
    (λ y h. let z = has_changed ks ls id y ch h in let k = s.known z.0 z.1 in (g.known y.thing (subst (λ o. Has v.known o) z.3 k.0), ap (λ (o : Ref). o.sort) (sym z.3) ∙ k.1))
    (λ i y k f h q. let z = get_changed ks ls id i y ch f in s.settled i z.0 k z.1 (subst (λ js. slice_get js i ≡ Some k) (taken_jobs v w n c r id t x) h) (z.2 ∙ q))
