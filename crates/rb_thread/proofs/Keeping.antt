-- What holds of a thread's store goes on to hold.
use Rattle.std.proofs.Common.{arith, ◌≡◌, ℕ, false, List, [], set, append-nil, refl, Some, None, inl, inr, sym, ap, subst, ◌∙◌, slice_get}
use Rattle.atomic_table.specs.Seated.{TableId}
use Rattle.rb_model.specs.declared.value.Id.{Id}
use Rattle.rb_model.specs.declared.value.Ref.{Ref}
use Rattle.rb_model.specs.declared.act.Reply.{Reply as Answered}
use Rattle.rb_model.specs.declared.call.Call.{Call as Held}
use Rattle.rb_model.specs.Doing.{said}
use Rattle.rb_model.specs.Private.{Private}
use Rattle.rb_model.specs.Log.{Log, asked, is_end}
use Rattle.rb_model.specs.declared.moved.MovedItem.{MovedItem}
use Rattle.rb_shared.specs.declared.answer.Answer.{Answer}
use Rattle.rb_shared.specs.declared.answer.Answer.TheVariants as answer
use Rattle.rb_shared.specs.Lists.{Each, Has}
use Rattle.rb_shared.specs.Answers.{entry_of}
use Rattle.rb_shared.specs.Asking.{Knows, ids_moved}
use Rattle.publish_barrier.specs.Absent.{HasLeft}
use Rattle.publish_barrier.specs.Known.{NotesOf}
use Rattle.rb_shared.specs.View.{View, room, joined_view, polled_view, rested_view}
use Rattle.rb_machine.specs.Scopes.{Script}
use Rattle.rb_thread.specs.declared.job.Job.{Job as HeldJob}
use Rattle.rb_thread.specs.Family.{Job, jobs}
use Rattle.rb_thread.specs.Kins.{Kin, childless, done, Changes}
use Rattle.rb_thread.specs.Seats as seats
use Rattle.rb_thread.specs.Handing.{refs_told}
use Rattle.rb_thread.specs.Alive.{Promises, Promised, Spawns, Alive}
use Rattle.rb_thread.proofs.Lines.{get_set_cases, get_changed}
use Rattle.rb_thread.proofs.Entries.{each_of, has_left, goes_answered, goes_room, ids_more}
use Rattle.rb_thread.proofs.Owning.{Keeps}
use Rattle.rb_thread.proofs.Sounding.{kin_job, quiet_logs, taken_jobs, knows_told, QuietAnswer, sound_quiet, sound_joined, set_same, TakesOver, sound_taken}

-- where nothing moved, the same have moved
ids_same : (v w : View) (n : ℕ) (c : Held) (a : Answer) → seats.Answered v n c [] a [] w → ids_moved w.log.entries ≡ ids_moved v.log.entries
ids_same v w n c (answer.Done r) x =
    ap (λ (y : View). ids_moved y.log.entries) x.0 ∙ (ids_more v.log.entries (entry_of n c [] (said r)) ∙ append-nil (ids_moved v.log.entries))
ids_same v w n c (answer.Full used wanted) x = ap (λ (y : View). ids_moved y.log.entries) x.0
ids_same v w n c answer.SinkFailed x = ap (λ (y : View). ids_moved y.log.entries) x.0
ids_same v w n c answer.Memory x = ap (λ (y : View). ids_moved y.log.entries) x.0

spawns_on : {Pass Q Z F : Type 0} (of : Pass → TableId) (view : Pass → View) (kept : Q → Pass → Type 0) (pre : F → Z → HeldJob → Pass → Type 0) (post : F → Z → HeldJob → Pass → Q → Type 0)
    (home : TableId) (S : Script) (N : ℕ) (v w : View) (f : F) (z : Z) → room w ≡ room v → Spawns of view kept pre post home S N v f z → Spawns of view kept pre post home S N w f z
spawns_on of view kept pre post home S N v w f z e s k p o fr kn l = s k p o fr kn (omega (arith, l, e))

-- what is promised of threads that were started with the same jobs
promised_same : {Pass Q : Type 0} (of : Pass → TableId) (view : Pass → View) (kept : Q → Pass → Type 0) (home : TableId) (S : Script) (N : ℕ) (js js' : List Job) (ks : List (Kin Q)) → js' ≡ js
    → Promised of view kept home S N js ks → Promised of view kept home S N js' ks
promised_same of view kept home S N js js' ks e p i x k q f g c = p i x k q f (subst (λ o. slice_get o i ≡ Some k) e g) c

promised_set : {Pass Q : Type 0} (of : Pass → TableId) (view : Pass → View) (kept : Q → Pass → Type 0) (home : TableId) (S : Script) (N : ℕ) (js : List Job) (ks : List (Kin Q)) (k : ℕ) (x : Kin Q) → slice_get ks k ≡ Some x
    → Promised of view kept home S N js ks → Promised of view kept home S N js (set ks k (childless x))
promised_set of view kept home S N js ks k x e p i z m q f g c = elim (get_set_cases ks k i x (childless x) z e f) [
  | inl o ↦ absurd (let w : None ≡ Some q = ap (λ (n : Kin _). n.child) (sym o.1) ∙ c in cc)
  | inr o ↦ p i z m q o g c
]

promised_changed : {Pass Q : Type 0} (of : Pass → TableId) (view : Pass → View) (kept : Q → Pass → Type 0) (home : TableId) (S : Script) (N : ℕ) (js : List Job) (ks ls : List (Kin Q)) (id : Id) → Changes done id ks ls
    → Promised of view kept home S N js ks → Promised of view kept home S N js ls
promised_changed of view kept home S N js ks ls id ch p i y m q f g c = let z = get_changed ks ls id i y ch f in p i z.0 m q z.1 g (z.2 ∙ c)

module _ {Pass Q Z F : Type 0} {of : Pass → TableId} {view : Pass → View} {kept : Q → Pass → Type 0} {pre : F → Z → HeldJob → Pass → Type 0} {post : F → Z → HeldJob → Pass → Q → Type 0}
    {home : TableId} {S : Script} {N : ℕ} {j : Job} where
  -- the seat belongs to the same store as before
  pub alive_at : {here here' : TableId} {v : View} {own : Private} {number : ℕ} {refs : List Ref} {ks : List (Kin Q)} {f : F} {z : Z} → here' ≡ here
      → Alive of view kept pre post home S N j here v own number refs ks f z → Alive of view kept pre post home S N j here' v own number refs ks f z
  alive_at {v = v} {own = own} {number = number} {refs = refs} {ks = ks} {f = f} {z = z} e a = subst (λ x. Alive of view kept pre post home S N j x v own number refs ks f z) (sym e) a

  -- the private things are those of the same thread, and what had left has left
  pub alive_own : {here : TableId} {v : View} {own own' : Private} {number : ℕ} {refs : List Ref} {ks : List (Kin Q)} {f : F} {z : Z} → Keeps own own'
      → Alive of view kept pre post home S N j here v own number refs ks f z → Alive of view kept pre post home S N j here v own' number refs ks f z
  alive_own {v = v} {own = own} {own' = own'} e a = record {
    home_is = a.home_is;
    numbered = a.numbered;
    mine = e.0 ∙ a.mine;
    sound = a.sound;
    known = a.known;
    absent = each_of (HasLeft own) (HasLeft own') (ids_moved v.log.entries) e.1 a.absent;
    promised = a.promised;
    spawns = a.spawns;
  }

  -- the same references are noted, and the same threads were started
  pub alive_same : {here : TableId} {v : View} {own : Private} {number : ℕ} {refs refs' : List Ref} {ks ls : List (Kin Q)} {f : F} {z : Z} → refs' ≡ refs → ls ≡ ks
      → Alive of view kept pre post home S N j here v own number refs ks f z → Alive of view kept pre post home S N j here v own number refs' ls f z
  alive_same {here = here} {v = v} {own = own} {number = number} {refs = refs} {refs' = refs'} {ks = ks} {f = f} {z = z} e g a =
      subst (λ m. Alive of view kept pre post home S N j here v own number refs' m f z) (sym g) (subst (λ r. Alive of view kept pre post home S N j here v own number r ks f z) (sym e) a)

  -- behind an answer to a call that starts none and gathers none
  pub alive_on : {here here' : TableId} {v w : View} {own own' : Private} {number : ℕ} {refs refs' : List Ref} {ks : List (Kin Q)} {f : F} {z : Z} (n : ℕ) (c : Held) (ms : List MovedItem) (a : Answer) (ms' : List MovedItem)
      → Alive of view kept pre post home S N j here v own number refs ks f z → here' ≡ here → is_end (asked c) ≡ false → QuietAnswer c a → seats.Answered v n c ms a ms' w
      → own'.thread ≡ own.thread → Each (HasLeft own') (ids_moved w.log.entries) → ((r : Ref) → Has refs' r → Knows w r) → Alive of view kept pre post home S N j here' w own' number refs' ks f z
  alive_on {v = v} {w = w} {ks = ks} {f = f} {z = z} n c ms a ms' l h e q x m away k =
      let g = goes_answered v w n c ms a ms' e x in
      record {
        home_is = h ∙ l.home_is;
        numbered = l.numbered;
        mine = m ∙ l.mine;
        sound = sound_quiet S N j v w ks n c ms a ms' l.sound e q x;
        known = k;
        absent = away;
        promised = promised_same of view kept home S N (jobs v.log.entries) (jobs w.log.entries) ks (quiet_logs v w n c ms a ms' q x).2 l.promised;
        spawns = spawns_on of view kept pre post home S N v w f z (goes_room v w g) l.spawns;
      }

  -- where nothing moved
  pub alive_quiet : {here here' : TableId} {v w : View} {own : Private} {number : ℕ} {refs refs' : List Ref} {ks : List (Kin Q)} {f : F} {z : Z} (n : ℕ) (c : Held) (a : Answer)
      → Alive of view kept pre post home S N j here v own number refs ks f z → here' ≡ here → is_end (asked c) ≡ false → QuietAnswer c a → seats.Answered v n c [] a [] w → NotesOf refs (refs_told a) refs'
      → Alive of view kept pre post home S N j here' w own number refs' ks f z
  alive_quiet {v = v} {w = w} {own = own} n c a l h e q x t =
      let g = goes_answered v w n c [] a [] e x in
      alive_on n c [] a [] l h e q x refl (subst (Each (HasLeft own)) (sym (ids_same v w n c a x)) l.absent)
      (λ r i. elim (t r i) [ inl o ↦ g.known r (l.known r o) | inr o ↦ knows_told v w n c [] a [] r x o ])

  -- ---- a child's pass is taken in

  -- what is promised of the one at a place
  pub promised_at : {here : TableId} {v : View} {own : Private} {number : ℕ} {refs : List Ref} {ks : List (Kin Q)} {f : F} {z : Z} (k : ℕ) (x : Kin Q) (c : Q) → Alive of view kept pre post home S N j here v own number refs ks f z
      → slice_get ks k ≡ Some x → x.child ≡ Some c → (job : Job) × (slice_get (jobs v.log.entries) k ≡ Some job) × Promises of view kept home S N job c
  promised_at k x c l e i = let job = kin_job k x l.sound e in (job.0, job.1, l.promised k x job.0 c e job.1 i)

  pub alive_joined : {here here' : TableId} {v w : View} {own : Private} {number : ℕ} {refs : List Ref} {ks ls : List (Kin Q)} {f : F} {z : Z} (u : Pass) (k : ℕ) (x : Kin Q) (c : Q)
      → Alive of view kept pre post home S N j here v own number refs ks f z → here' ≡ here → slice_get ks k ≡ Some x → x.child ≡ Some c → kept c u
      → w ≡ joined_view (polled_view (rested_view v)) (view u) → ls ≡ set ks k (childless x) → Alive of view kept pre post home S N j here' w own number refs ls f z
  alive_joined {here' = here'} {v = v} {w = w} {own = own} {number = number} {refs = refs} {ks = ks} {f = f} {z = z} u k x c l h e i d q g =
      let made = promised_at k x c l e i in
      let r = made.2 u d in
      subst (λ m. Alive of view kept pre post home S N j here' w own number refs m f z) (sym g) record {
        home_is = h ∙ l.home_is;
        numbered = l.numbered;
        mine = l.mine;
        sound = sound_joined S N j v (view u) w ks k x made.0 l.sound e made.1 r.1 q;
        known = λ o m. subst (λ rs. Has rs o) (sym (ap (λ (y : View). y.known) q)) (has_left v.known (view u).known o (l.known o m));
        absent = subst (λ (y : Log). Each (HasLeft own) (ids_moved y.entries)) (sym (ap (λ (y : View). y.log) q)) l.absent;
        promised = promised_set of view kept home S N (jobs w.log.entries) ks k x e (promised_same of view kept home S N (jobs v.log.entries) (jobs w.log.entries) ks (ap (λ (y : View). jobs y.log.entries) q) l.promised);
        spawns = spawns_on of view kept pre post home S N v w f z (ap room q) l.spawns;
      }

  pub alive_childless : {here : TableId} {v : View} {own : Private} {number : ℕ} {refs : List Ref} {ks ls : List (Kin Q)} {f : F} {z : Z} (k : ℕ) (x : Kin Q)
      → Alive of view kept pre post home S N j here v own number refs ks f z → slice_get ks k ≡ Some x → x.child ≡ None → ls ≡ set ks k (childless x)
      → Alive of view kept pre post home S N j here v own number refs ls f z
  alive_childless {here = here} {v = v} {own = own} {number = number} {refs = refs} {ks = ks} {f = f} {z = z} k x l e c g =
      subst (λ m. Alive of view kept pre post home S N j here v own number refs m f z) (sym (g ∙ set_same ks k x e c)) l

  pub alive_taken : {here here' : TableId} {v w : View} {own : Private} {number : ℕ} {refs refs' : List Ref} {ks ls : List (Kin Q)} {f : F} {z : Z} (n : ℕ) (c : Held) (r : Answered) (id : Id)
      → Alive of view kept pre post home S N j here v own number refs ks f z → here' ≡ here → is_end (asked c) ≡ false → TakesOver (asked c) (said r) id
      → seats.Answered v n c [] (answer.Done r) [] w → Changes done id ks ls → NotesOf refs (refs_told (answer.Done r)) refs' → Alive of view kept pre post home S N j here' w own number refs' ls f z
  alive_taken {v = v} {w = w} {own = own} {ks = ks} {ls = ls} {f = f} {z = z} n c r id l h e t x ch noted =
      let g = goes_answered v w n c [] (answer.Done r) [] e x in
      record {
        home_is = h ∙ l.home_is;
        numbered = l.numbered;
        mine = l.mine;
        sound = sound_taken S N j v w ks ls n c r id l.sound e t x ch;
        known = λ o i. elim (noted o i) [ inl m ↦ g.known o (l.known o m) | inr m ↦ knows_told v w n c [] (answer.Done r) [] o x m ];
        absent = subst (Each (HasLeft own)) (sym (ids_same v w n c (answer.Done r) x)) l.absent;
        promised = promised_changed of view kept home S N (jobs w.log.entries) ks ls id ch (promised_same of view kept home S N (jobs v.log.entries) (jobs w.log.entries) ks (taken_jobs v w n c r id t x) l.promised);
        spawns = spawns_on of view kept pre post home S N v w f z (goes_room v w g) l.spawns;
      }

  -- a poll changes nothing
  pub alive_polled : {here here' : TableId} {v w : View} {own : Private} {number : ℕ} {refs : List Ref} {ks : List (Kin Q)} {f : F} {z : Z} → Alive of view kept pre post home S N j here v own number refs ks f z
      → here' ≡ here → w ≡ polled_view v → Alive of view kept pre post home S N j here' w own number refs ks f z
  alive_polled {here = here} {here' = here'} {v = v} {w = w} {own = own} {number = number} {refs = refs} {ks = ks} {f = f} {z = z} l h e =
      let same : polled_view v ≡ v = ap (λ b. record v { polled = b }) (sym l.sound.polled) in
      let is : w ≡ v = e ∙ same in
      subst (λ x. Alive of view kept pre post home S N j x w own number refs ks f z) (sym h) (subst (λ x. Alive of view kept pre post home S N j here x own number refs ks f z) (sym is) l)
