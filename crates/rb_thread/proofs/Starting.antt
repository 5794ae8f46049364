-- A thread is started.
use Rattle.std.proofs.Common.{arith, ◌≡◌, ℕ, ◌+◌, ◌<◌, true, false, List, [], ◌∷◌, ◌++◌, length, map, Option, Some, None, inl, inr, refl, sym, ap, subst, ◌∙◌, slice_get}
use Rattle.std.proofs.lemmas.List.{length-map}
use Rattle.atomic_table.specs.Seated.{TableId}
use Rattle.rb_model.specs.declared.value.Id.{Id}
use Rattle.rb_model.specs.declared.value.Ref.{Ref}
use Rattle.rb_model.specs.declared.act.Reply.TheVariants as answered
use Rattle.rb_model.specs.declared.call.Call.{Call as Held}
use Rattle.rb_model.specs.Values.{Value as Val, Reference, plain}
use Rattle.rb_model.specs.Acts.{Started}
use Rattle.rb_model.specs.Immediates.{reference}
use Rattle.rb_model.specs.Moving.{items_of, ref_of}
use Rattle.rb_model.specs.Private.{Item, Private}
use Rattle.rb_model.specs.declared.moved.MovedItem.{MovedItem}
use Rattle.rb_model.specs.Log.{Log, Entry, Start, asked}
use Rattle.rb_model.specs.Started.{started, after_entries, next_thread, thread_id, to_thread}
use Rattle.rb_shared.specs.declared.answer.Answer.{Answer}
use Rattle.rb_shared.specs.declared.answer.Answer.TheVariants as answer
use Rattle.rb_shared.specs.Lists.{Has, Each}
use Rattle.rb_shared.specs.Threads.{ThreadLog}
use Rattle.rb_shared.specs.Asking.{Knows, ids_moved}
use Rattle.publish_barrier.specs.Absent.{HasLeft}
use Rattle.rb_shared.specs.Replies.{MayGive}
use Rattle.rb_shared.specs.View.{View, known_logs, room, with_entry, polled_view, rested_view, split_view, newborn, to_globals}
use Rattle.rb_machine.specs.Scopes.{Script}
use Rattle.rb_thread.specs.declared.job.Job.{Job as HeldJob}
use Rattle.rb_thread.specs.Family.{Job, Body, job_of, jobs, number_of, Fresh}
use Rattle.rb_thread.specs.Kins.{Kin, kin}
use Rattle.rb_thread.specs.Seats as seats
use Rattle.rb_thread.specs.Asking.{IsJobIn, number_in}
use Rattle.rb_thread.specs.Alive.{Sound, Promises, Promised, Alive}
use Rattle.rb_thread.proofs.Lines.{names_more, placed_more, waits_more, some_same, get_snoc, get_front, get_last, got_below}
use Rattle.rb_thread.proofs.Entries.{has_left, has_right, has_cases, started_more, after_more, jobs_more, length_jobs, Goes, goes_entry}
use Rattle.rb_thread.proofs.Sounding.{sound_on, covers_goes, Covers, accounted_more}

-- the entry by which thread m, whose thing t is, was started, and with which these things moved
abbrev pub start_entry : ℕ → Id → ℕ → List Val → List Item → ℕ → Ref → Entry
start_entry n id body vs moved m t = record { step = n; call = Start id body vs; moved = moved; reply = Started m (reference t) }

-- A Start that was answered with a thread: the entry, with which things moved that have these references now, the next thing, and room for a
-- generation more.
pub record Began (v w : View) (n : ℕ) (id : Id) (body : ℕ) (vs : List Val) (moved : List Item) (refs : List Ref) (m : ℕ) (t : Ref) : Type 0 where
  pub view_is : w ≡ with_entry v (start_entry n id body vs moved m t) (t ∷ refs)
  pub thing_is : reference t ≡ to_thread id
  pub room_is : v.generation + 1 < v.slots

began_as : (v w : View) (n : ℕ) (id : Id) (body : ℕ) (vs : List Val) (moved : List Item) (refs : List Ref) (m k : ℕ) (t s : Ref) → k ≡ m → s ≡ t → w ≡ with_entry v (start_entry n id body vs moved k s) (s ∷ refs)
    → MayGive v.generation v.slots (Start id body vs) (Started k (reference s)) → Began v w n id body vs moved refs m t
began_as v w n id body vs moved refs m k t s km st e (inl h) = record {
  view_is = e ∙ (λ i. with_entry v (start_entry n id body vs moved (km i) (st i)) (st i ∷ refs));
  thing_is = (let x : reference s ≡ to_thread id = (let c = h.1 in cc) in ap reference (sym st) ∙ x);
  room_is = h.2;
}
began_as v w n id body vs moved refs m k t s km st e (inr h) = absurd (let c = h in cc)

pub began : (v w : View) (n : ℕ) (c : Held) (id : Id) (body : ℕ) (vs : List Val) (m : ℕ) (t : Ref) (ms : List MovedItem) (a : Answer) (ms' : List MovedItem) → number_in a ≡ Some (m, t) → asked c ≡ Start id body vs
    → seats.Answered v n c ms a ms' w → Began v w n id body vs (items_of ms) (map ref_of ms') m t
began v w n c id body vs m t ms (answer.Done (answered.Started k s)) ms' e i x =
    let same : (k, s) ≡ (m, t) = some_same (k, s) (m, t) e in
    began_as v w n id body vs (items_of ms) (map ref_of ms') m k t s (ap (λ (p : ℕ × Ref). p.0) same) (ap (λ (p : ℕ × Ref). p.1) same)
    (x.0 ∙ ap (λ d. with_entry v (record { step = n; call = d; moved = items_of ms; reply = Started k (reference s) }) (s ∷ map ref_of ms')) i)
    (subst (λ d. MayGive v.generation v.slots d (Started k (reference s))) i x.1)
began v w n c id body vs m t ms (answer.Done (answered.Value y)) ms' e i x = absurd (let q : None ≡ Some (m, t) = e in cc)
began v w n c id body vs m t ms (answer.Done (answered.Elements y)) ms' e i x = absurd (let q : None ≡ Some (m, t) = e in cc)
began v w n c id body vs m t ms (answer.Done (answered.Pairs y)) ms' e i x = absurd (let q : None ≡ Some (m, t) = e in cc)
began v w n c id body vs m t ms (answer.Done answered.Done) ms' e i x = absurd (let q : None ≡ Some (m, t) = e in cc)
began v w n c id body vs m t ms (answer.Done (answered.Ended y)) ms' e i x = absurd (let q : None ≡ Some (m, t) = e in cc)
began v w n c id body vs m t ms (answer.Done (answered.Failed y)) ms' e i x = absurd (let q : None ≡ Some (m, t) = e in cc)
began v w n c id body vs m t ms (answer.Full used wanted) ms' e i x = absurd (let q : None ≡ Some (m, t) = e in cc)
began v w n c id body vs m t ms answer.SinkFailed ms' e i x = absurd (let q : None ≡ Some (m, t) = e in cc)
began v w n c id body vs m t ms answer.Memory ms' e i x = absurd (let q : None ≡ Some (m, t) = e in cc)

-- the job that a Start hands over
pub job_told : (refs : List Ref) (c : Held) (number : ℕ) (o : Option HeldJob) (job : HeldJob) → IsJobIn refs c number o → o ≡ Some job → IsJobIn refs c number (Some job)
job_told refs c number o job is e = subst (IsJobIn refs c number) e is

-- the id of the next thread
pub next_id_is : {Q : Type 0} {S : Script} {N : ℕ} {j : Job} {v : View} {ks : List (Kin Q)} (number count : ℕ) → Sound S N j v ks → number ≡ number_of j → count ≡ length ks → thread_id number count ≡ next_thread v.thread v.log
next_id_is {v = v} {ks = ks} number count s n c =
    let l : length ks ≡ length (started v.log.entries) = sym (length-map ks (λ x. (x.number, reference x.thing))) ∙ ap length s.named in
    let t = n ∙ sym s.thread_is in
    λ i. thread_id (t i) ((c ∙ l) i)

module _ (v : View) (n : ℕ) (id : Id) (body : ℕ) (vs : List Val) (moved : List Item) (refs : List Ref) (m : ℕ) (t : Ref) where
  abbrev pub behind_start : View
  behind_start = with_entry v (start_entry n id body vs moved m t) (t ∷ refs)

  goes_start : Goes v behind_start
  goes_start = goes_entry v (start_entry n id body vs moved m t) (t ∷ refs) refl

  -- the pass of the thread that was started
  fresh_child : {Q : Type 0} (S : Script) (N : ℕ) (j : Job) (ks : List (Kin Q)) → Sound S N j v ks → Fresh S N (Body m body vs) (newborn behind_start m)
  fresh_child S N j ks s =
      let W = behind_start in
      let up : Covers (known_logs v) (known_logs (newborn W m)) = λ u h q. inr (covers_goes v W s.going goes_start u h q) in
      record {
        thread_is = refl;
        going = refl;
        log_is = refl;
        accounted = λ u h q. elim h [
          | inl i ↦ absurd (let g : true ≡ false = sym q ∙ ap (λ (y : ThreadLog). y.ended) i in cc)
          | inr i ↦ elim i [
            | inl o ↦ absurd (let g : true ≡ false = sym q ∙ ap (λ (y : ThreadLog). y.ended) o in cc)
            | inr o ↦ accounted_more S N (known_logs v) (known_logs (newborn W m)) u up (s.accounted u (inr o) q)
          ]
        ];
        globals = has_left v.known (t ∷ refs) to_globals s.globals;
      }

  -- its maker behind that
  sound_begun : {Q : Type 0} (S : Script) (N : ℕ) (j : Job) (ks : List (Kin Q)) (q : Q) (w : View) → Sound S N j v ks → Goes v w → w.log ≡ behind_start.log → w.known ≡ behind_start.known → reference t ≡ to_thread id
      → id ≡ next_thread v.thread v.log → Sound S N j w (ks ++ kin m t (Some q) false ∷ [])
  sound_begun {Q = Q} S N j ks q w s g lg kn th e =
      let x = kin m t (Some q) false in
      let d = start_entry n id body vs moved m t in
      let L = ap (λ (l : Log). l.entries) lg in
      let l : length ks ≡ length (started v.log.entries) = sym (length-map ks (λ x. (x.number, reference x.thing))) ∙ ap length s.named in
      let z : 0 + length ks ≡ length (started v.log.entries) = omega (arith, l) in
      sound_on S N j v w ks (ks ++ x ∷ []) s g
      (names_more ks x ∙ (ap (λ o. o ++ (m, reference t) ∷ []) s.named ∙ sym (ap started L ∙ started_more v.log.entries d)))
      (placed_more v.thread 0 ks x s.placed (ap (λ (r : Reference). r.id) th ∙ (e ∙ ap (thread_id v.thread) (sym z))))
      (waits_more ks m t (Some q) ∙ (ap (λ o. o ++ reference t ∷ []) s.waiting ∙ sym (ap (after_entries []) L ∙ after_more [] v.log.entries d)))
      (λ y h. elim (has_cases ks (x ∷ []) y h) [
        | inl o ↦ (g.known y.thing (s.known y o).0, (s.known y o).1)
        | inr o ↦ elim o [
          | inl i ↦ (let same : t ≡ y.thing = ap (λ (r : Kin Q). r.thing) (sym i) in
              (subst (λ r. Has w.known r) same (subst (λ rs. Has rs t) (sym kn) (has_right v.known (t ∷ refs) t (inl refl))), ap (λ (r : Ref). r.sort) (sym same) ∙ ap (λ (r : Reference). r.sort) th))
          | inr i ↦ absurd i
        ]
      ])
      (λ i y k f g' c. elim (get_snoc ks x i y f) [
        | inl o ↦ (let near : i < length (jobs v.log.entries) = (let b = got_below ks i y o in omega (arith, b, l, length_jobs v.log.entries)) in
            s.settled i y k o (sym (get_front (jobs v.log.entries) (Body m body vs ∷ []) i near) ∙ subst (λ js. slice_get js i ≡ Some k) (ap jobs L ∙ jobs_more v.log.entries d) g') c)
        | inr o ↦ absurd (let k' : Some q ≡ None = sym (ap (λ (r : Kin Q). r.child) o.1) ∙ c in cc)
      ])

promised_more : {Pass Q : Type 0} (of : Pass → TableId) (view : Pass → View) (kept : Q → Pass → Type 0) (home : TableId) (S : Script) (N : ℕ) (js : List Job) (ks : List (Kin Q)) (m : ℕ) (t : Ref) (q : Q) (job : Job) → length js ≡ length ks
    → Promised of view kept home S N js ks → Promises of view kept home S N job q → Promised of view kept home S N (js ++ job ∷ []) (ks ++ kin m t (Some q) false ∷ [])
promised_more {Q = Q} of view kept home S N js ks m t q job l p is i y k r f g c = elim (get_snoc ks (kin m t (Some q) false) i y f) [
  | inl o ↦ (let near : i < length js = (let b = got_below ks i y o in omega (arith, b, l)) in p i y k r o (sym (get_front js (job ∷ []) i near) ∙ g) c)
  | inr o ↦ (let same : Some q ≡ Some r = sym (ap (λ (n : Kin Q). n.child) o.1) ∙ c in
      let qr : q ≡ r = some_same q r same in
      let here : slice_get (js ++ job ∷ []) i ≡ Some job = ap (λ n. slice_get (js ++ job ∷ []) n) (o.0 ∙ sym l) ∙ get_last js job in
      let jk : job ≡ k = some_same job k (sym here ∙ g) in
      subst (λ n. Promises of view kept home S N n r) jk (subst (Promises of view kept home S N job) qr is))
]

module _ {Pass Q Z F : Type 0} {of : Pass → TableId} {view : Pass → View} {kept : Q → Pass → Type 0} {pre : F → Z → HeldJob → Pass → Type 0} {post : F → Z → HeldJob → Pass → Q → Type 0}
    {home : TableId} {S : Script} {N : ℕ} {j : Job} where
  -- what starts threads may be called with the child's pass, and its child then makes the promise
  pub alive_child : {here : TableId} {v w : View} {own : Private} {number : ℕ} {refs : List Ref} {ks : List (Kin Q)} {f : F} {z : Z} {n : ℕ} {id : Id} {moved : List Item} {laid : List Ref} {m : ℕ} {t : Ref} (p : Pass) (job : HeldJob)
      → Alive of view kept pre post home S N j here v own number refs ks f z → Began v w n id job.body (map plain job.values.items) moved laid m t → job.number ≡ m → of p ≡ home → view p ≡ newborn w m
      → Each (Knows w) job.refs.items → pre f z job p × ((q : Q) → post f z job p q → Promises of view kept home S N (job_of job) q)
  alive_child {v = v} {w = w} {ks = ks} {n = n} {id = id} {moved = moved} {laid = laid} {m = m} {t = t} p job l b e o q knows =
      let vs = map plain job.values.items in
      let W = behind_start v n id job.body vs moved laid m t in
      let is : view p ≡ newborn W m = q ∙ ap (λ (x : View). newborn x m) b.view_is in
      let fr : Fresh S N (job_of job) (view p) =
      subst (λ k. Fresh S N (Body k job.body vs) (view p)) (sym e) (subst (Fresh S N (Body m job.body vs)) (sym is) (fresh_child v n id job.body vs moved laid m t S N j ks l.sound)) in
      let less : room (newborn W m) < room v = omega (arith, b.room_is) in
      l.spawns job p o fr (subst (λ (x : View). Each (Knows x) job.refs.items) (sym q) knows) (subst (λ (x : View). room x < room v) (sym is) less)

  -- and what holds behind it
  pub alive_begun : {here here' : TableId} {v w w' : View} {own own' : Private} {number : ℕ} {refs refs' : List Ref} {ks ls : List (Kin Q)} {f : F} {z : Z} {n : ℕ} {id : Id} {body : ℕ} {vs : List Val} {moved : List Item} {laid : List Ref} {m : ℕ}
      {t : Ref} (q : Q) (k : Job) → Alive of view kept pre post home S N j here v own number refs ks f z → here' ≡ here → Began v w n id body vs moved laid m t → id ≡ next_thread v.thread v.log → w' ≡ polled_view (rested_view (split_view w))
      → ls ≡ ks ++ kin m t (Some q) false ∷ [] → k ≡ Body m body vs → Promises of view kept home S N k q → own'.thread ≡ own.thread → Each (HasLeft own') (ids_moved w.log.entries) → ((r : Ref) → Has refs' r → Knows w r)
      → Alive of view kept pre post home S N j here' w' own' number refs' ls f z
  alive_begun {here' = here'} {v = v} {w' = w'} {own' = own'} {number = number} {refs' = refs'} {ks = ks} {f = f} {z = z} {n = n} {id = id} {body = body} {vs = vs} {moved = moved} {laid = laid} {m = m} {t = t} q k l h b e i g km p mine away knows =
      let d = start_entry n id body vs moved m t in
      let W = behind_start v n id body vs moved laid m t in
      let V = polled_view (rested_view (split_view W)) in
      let is : w' ≡ V = i ∙ ap (λ (o : View). polled_view (rested_view (split_view o))) b.view_is in
      let goes : Goes v V = record {
        going = λ x. refl;
        polled = λ x. refl;
        thread = refl;
        generation = refl;
        slots = refl;
        told = refl;
        entries = λ x y. has_left v.log.entries _ x y;
        known = λ r y. has_left v.known (t ∷ laid) r y;
      } in
      let us = ks ++ kin m t (Some q) false ∷ [] in
      subst (λ o. Alive of view kept pre post home S N j here' w' own' number refs' o f z) (sym g) (subst (λ o. Alive of view kept pre post home S N j here' o own' number refs' us f z) (sym is) record {
        home_is = h ∙ l.home_is;
        numbered = l.numbered;
        mine = mine ∙ l.mine;
        sound = sound_begun v n id body vs moved laid m t S N j ks q V l.sound goes refl refl b.thing_is e;
        known = λ r y. subst (λ (x : View). Knows x r) b.view_is (knows r y);
        absent = subst (λ (x : View). Each (HasLeft own') (ids_moved x.log.entries)) b.view_is away;
        promised = subst (λ js. Promised of view kept home S N js us) (sym (jobs_more v.log.entries d))
            (promised_more of view kept home S N (jobs v.log.entries) ks m t q (Body m body vs) (length_jobs v.log.entries ∙ sym (sym (length-map ks (λ x. (x.number, reference x.thing))) ∙ ap length l.sound.named)) l.promised (subst (λ o. Promises of view kept home S N o q) km p));
        spawns = l.spawns;
      })

pub is_unsplit : (v w : View) (n : ℕ) (id : Id) (body : ℕ) (vs : List Val) (moved : List Item) (refs : List Ref) (m : ℕ) (t : Ref) → Began v w n id body vs moved refs m t → w.unsplit ≡ Some m
is_unsplit v w n id body vs moved refs m t b = ap (λ (o : View). o.unsplit) b.view_is
