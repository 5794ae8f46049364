-- What holds of a thread's store while the thread goes on, and when it has ended.
use Rattle.std.specs.Prelude.{◌≡◌, ◌<◌, ℕ, suc, Bool, true, false, ◌||◌, List, [], ◌∷◌, drop, slice_get, Some, None}
use Rattle.atomic_table.specs.Seated.{TableId}
use Rattle.shape_core.specs.Shape.{Shape}
use Rattle.rb_model.specs.declared.value.Ref.{Ref}
use Rattle.rb_model.specs.declared.value.Sort.TheVariants as sort
use Rattle.rb_model.specs.Values.{Value as Val}
use Rattle.rb_model.specs.Acts.{Done}
use Rattle.rb_model.specs.Ends.{End as Ending, Value, Full, Memory, told}
use Rattle.rb_model.specs.Log.{Log, End}
use Rattle.rb_model.specs.Private.{Item, Private, Leaves}
use Rattle.rb_model.specs.Started.{started, ungathered}
use Rattle.rb_shared.specs.Lists.{Has, Each}
use Rattle.rb_shared.specs.View.{View, known_logs, room, with_entry, with_refused, to_globals}
use Rattle.rb_shared.specs.Asking.{Knows, ids_moved}
use Rattle.publish_barrier.specs.Absent.{HasLeft}
use Rattle.rb_machine.specs.Scopes.{Script}
use Rattle.rb_machine.specs.Follows.{Comes, Tail, Follows}
use Rattle.rb_thread.specs.declared.job.Job.{Job as Held}
use Rattle.rb_thread.specs.Family.{Job, job_of, jobs, number_of, start_of, AllAccounted, HasCause, HasDone, Fresh, Ran}
use Rattle.rb_thread.specs.Kins.{Kin, names, waits, ArePlaced}

-- The pass of a thread that goes on with its job, beside the threads that it started.
pub record Sound {Q : Type 0} (S : Script) (N : ℕ) (j : Job) (v : View) (ks : List (Kin Q)) : Type 0 where
  pub going : v.ended ≡ false
  pub polled : v.polled ≡ true
  pub thread_is : v.thread ≡ number_of j
  -- whoever is known to have ended did what the reference thread does
  pub accounted : AllAccounted S N (known_logs v)
  pub globals : Knows v to_globals
  -- those that it started are those that its log says, and its pass knows them
  pub named : names ks ≡ started v.log.entries
  pub placed : ArePlaced v.thread 0 ks
  pub waiting : waits ks ≡ ungathered v.log
  pub known : (x : Kin Q) → Has ks x → Knows v x.thing × (x.thing.sort ≡ sort.Thread)
  -- where a child is taken out, it did the job that its start gave it, and its whole log was told
  pub settled : (i : ℕ) (x : Kin Q) (k : Job) → slice_get ks i ≡ Some x → slice_get (jobs v.log.entries) i ≡ Some k → x.child ≡ None → HasDone S N v.told k

-- a child promises a pass of this store with the whole work of a thread with this job
abbrev pub Promises : {Pass Q : Type 0} → (Pass → TableId) → (Pass → View) → (Q → Pass → Type 0) → TableId → Script → ℕ → Job → Q → Type 0
Promises {Pass = Pass} of view kept home S N k q = (p : Pass) → kept q p → (of p ≡ home) × Ran S N k (view p)

-- each child that is there does, of threads that were started with these jobs
abbrev pub Promised : {Pass Q : Type 0} → (Pass → TableId) → (Pass → View) → (Q → Pass → Type 0) → TableId → Script → ℕ → List Job → List (Kin Q) → Type 0
Promised {Q = Q} of view kept home S N js ks =
    (i : ℕ) (x : Kin Q) (k : Job) (q : Q) → slice_get ks i ≡ Some x → slice_get js i ≡ Some k → x.child ≡ Some q → Promises of view kept home S N k q

-- A thread may be started with a pass that knows the references of its job, and that is of a later generation; its child then makes that promise.
-- `pre` says when the spawner may be called, and `post` what it then gives.
abbrev pub Spawns : {Pass Q Z F : Type 0} → (Pass → TableId) → (Pass → View) → (Q → Pass → Type 0) → (pre : F → Z → Held → Pass → Type 0) → (post : F → Z → Held → Pass → Q → Type 0)
    → TableId → Script → ℕ → View → F → Z → Type 0
Spawns {Pass = Pass} {Q = Q} of view kept pre post home S N v f z =
    (j : Held) (p : Pass) → of p ≡ home → Fresh S N (job_of j) (view p) → Each (Knows (view p)) j.refs.items → room (view p) < room v
    → pre f z j p × ((q : Q) → post f z j p q → Promises of view kept home S N (job_of j) q)

-- All that a thread's store needs for its next call. `here` is which shared store its seat belongs to, `home` which it should be; `own` are its
-- private things, and `refs` the references that it has noted. What its calls have moved has left the private things.
pub record Alive {Pass Q Z F : Type 0} (of : Pass → TableId) (view : Pass → View) (kept : Q → Pass → Type 0) (pre : F → Z → Held → Pass → Type 0) (post : F → Z → Held → Pass → Q → Type 0)
    (home : TableId) (S : Script) (N : ℕ) (j : Job) (here : TableId) (v : View) (own : Private) (number : ℕ) (refs : List Ref) (ks : List (Kin Q)) (f : F) (z : Z) : Type 0 where
  pub home_is : here ≡ home
  pub numbered : number ≡ number_of j
  pub mine : own.thread ≡ number_of j
  pub sound : Sound S N j v ks
  pub known : (r : Ref) → Has refs r → Knows v r
  pub absent : Each (HasLeft own) (ids_moved v.log.entries)
  pub promised : Promised of view kept home S N (jobs v.log.entries) ks
  pub spawns : Spawns of view kept pre post home S N v f z

-- ---- the end

-- What gathering the k-th does to a tail: behind it, the tail goes on with those behind the k-th; `left` says whether this one was left out.
abbrev pub Gathers : {Q : Type 0} → (step k : ℕ) → List (Kin Q) → (old : Log) (own : Ending) (new : Log) (own' : Ending) (left : Bool) → Type 0
Gathers step k ks old own new own' left =
    (l : Log) (e : Ending) (lacking : Bool) → Tail step new own' (waits (drop (suc k) ks)) l e lacking → Tail step old own (waits (drop k ks)) l e (left || lacking)

-- the view behind the last entry, with which these things moved
abbrev pub ended_with : ℕ → View → Ending → List Item → List Ref → View
ended_with step v how moved refs = with_entry v (record { step = step; call = End how; moved = moved; reply = Done }) refs

-- and behind one with which nothing did
abbrev pub ended_view : ℕ → View → Ending → View
ended_view step v how = ended_with step v how [] []

-- The last entry of a thread with these private things that comes to an end e, how it ended by that, and what is left of the private things: it
-- ended so, and what the value mentions has moved; or by want of memory in place of a value; or since the shared heap was full for it.
pub data Closes (step : ℕ) (h : Private) (e : Ending) (v w : View) (how : Ending) (k : Private) : Type 0 where
  tells : (moved : List Item) (refs : List Ref) → how ≡ e → Leaves h (told e) moved k → w ≡ ended_with step v e moved refs → Closes step h e v w how k
  lacks : (x : Val) → e ≡ Value x → how ≡ Memory → k ≡ h → w ≡ ended_view step v Memory → Closes step h e v w how k
  fills : (x : Val) (used wanted : ℕ) (moved : List Item) (left : Private) → e ≡ Value x → how ≡ Full used wanted → k ≡ h → Leaves h (x ∷ []) moved left
      → w ≡ ended_view step (with_refused v (End (Value x)) moved (Some (used, wanted))) (Full used wanted) → Closes step h e v w how k

-- A thread has done what the reference thread does and ended so; and it and all that it knows to have ended are accounted for. What is left
-- of its private things has seen these shapes.
pub record Left (S : Script) (N : ℕ) (j : Job) (shapes : List Shape) (v : View) (how : Ending) : Type 0 where
  pub store : Private
  pub follows : Follows S N (start_of S N j) v.log how store
  pub whose : store.thread ≡ number_of j
  pub shaped : store.shapes ≡ shapes
  pub ran : Ran S N j v

-- so it is where the thread, with this log and these private things, came to its own end at this step, which has its cause
abbrev pub Ends : Script → ℕ → Job → Log → Private → (step : ℕ) → (own : Ending) → View → Ending → Type 0
Ends S N j l h step own v how = Comes S N (start_of S N j) l h own step → HasCause l own → Left S N j h.shapes v how
