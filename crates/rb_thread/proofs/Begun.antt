-- How a thread begins, and how one ends that has no memory to begin.
use Rattle.std.proofs.Common.{arith, ◌≡◌, ℕ, false, List, [], ◌∷◌, ◌⊎◌, inl, inr, refl, sym, ap, subst, ◌∙◌}
use Rattle.atomic_table.specs.Seated.{TableId}
use Rattle.rb_model.specs.declared.value.Ref.{Ref}
use Rattle.rb_model.specs.Ends.{Memory}
use Rattle.rb_model.specs.Private.{Private, bare, nothing_waits}
use Rattle.rb_model.specs.Log.{Log, fresh}
use Rattle.rb_model.specs.Started.{started, ungathered}
use Rattle.rb_shared.specs.Lists.{Has, Each}
use Rattle.rb_shared.specs.Asking.{Knows, ids_moved}
use Rattle.publish_barrier.specs.Absent.{HasLeft}
use Rattle.publish_barrier.specs.Known.{with_all_noted}
use Rattle.rb_shared.specs.View.{View, polled_view, to_globals}
use Rattle.rb_machine.specs.Scopes.{Script}
use Rattle.rb_machine.specs.Control.{State}
use Rattle.rb_machine.specs.Follows.{At, here, goes, Comes, cut, all_gathered}
use Rattle.rb_machine.specs.Laws.{Quiet, stays, moves}
use Rattle.rb_machine.proofs.Down.{is_never_stuck}
use Rattle.rb_thread.specs.declared.job.Job.{Job as HeldJob}
use Rattle.rb_thread.specs.Family.{Job, number_of, start_of, Fresh}
use Rattle.rb_thread.specs.Kins.{Kin}
use Rattle.rb_thread.specs.Alive.{Sound, Spawns, Alive, tells, ended_view, Left}
use Rattle.rb_thread.proofs.Causes.{memory_cause}
use Rattle.rb_thread.proofs.Closing.{ends_by}
use Rattle.rb_thread.proofs.Noting.{all_noted}

-- ---- the machine

pub quietly : (S : Script) (N : ℕ) (start : State) (h : Private) (l : Log) (s t : State) → Quiet S s t → At S N start l h s → At S N start l h t
quietly S N start h l s t (stays u) a = a
quietly S N start h l s t (moves u v w e q) a = quietly S N start h l v t q (goes l h u v a e)

-- want of memory cuts a thread that has done nothing
pub cut_at_once : (S : Script) (N : ℕ) (start : State) (t : ℕ) → Comes S N start fresh (bare t) Memory 0
cut_at_once S N start t =
    let w = is_never_stuck S start in
    cut fresh (bare t) w.0 0 (quietly S N start (bare t) fresh start w.0 w.1 (here t)) w.2 (omega arith) (omega arith)

-- ---- the store

sound_fresh : {Q : Type 0} (S : Script) (N : ℕ) (j : Job) (v w : View) (ks : List (Kin Q)) → Fresh S N j v → w ≡ polled_view v → ks ≡ [] → Sound S N j w ks
sound_fresh {Q = Q} S N j v w ks f e none = subst (λ o. Sound S N j w o) (sym none) (subst (λ o. Sound {Q = Q} S N j o []) (sym e) record {
  going = f.going;
  polled = refl;
  thread_is = f.thread_is;
  accounted = f.accounted;
  globals = f.globals;
  named = sym (ap (λ (l : Log). started l.entries) f.log_is);
  placed = tt;
  waiting = sym (ap ungathered f.log_is);
  known = λ x h. absurd h;
  settled = λ i x k e. absurd (cc);
})

each_among : (v : View) (rs : List Ref) → Each (Knows v) rs → (r : Ref) → Has rs r → Knows v r
each_among v (x ∷ rs) e r (inl q) = subst (Knows v) (sym q) e.0
each_among v (x ∷ rs) e r (inr h) = each_among v rs e.1 r h
each_among v [] e r h = absurd h

-- what is noted at the start is known
pub noted_known : (v w : View) (refs : List Ref) → w ≡ polled_view v → Each (Knows v) refs → (r : Ref) → Has refs r → Knows w r
noted_known v w refs e k r h = subst (λ (x : View). Knows x r) (sym e) (each_among v refs k r h)

each_by : {A : Type 0} (P : A → Type 0) (xs : List A) → ((x : A) → Has xs x → P x) → Each P xs
each_by P [] f = tt
each_by P (x ∷ xs) f = (f x (inl refl), each_by P xs (λ y h. f y (inr h)))

-- the global variables and what a job tells
pub told_known : (v : View) (rs new : List Ref) → Knows v to_globals → Each (Knows v) rs → new ≡ with_all_noted (to_globals ∷ []) rs → Each (Knows v) new
told_known v rs new g k e = each_by (Knows v) new (λ r h. by r (all_noted (to_globals ∷ []) rs r (subst (λ xs. Has xs r) e h))) where
  first : (r : Ref) → Has (to_globals ∷ []) r → Knows v r
  first r (inl q) = subst (Knows v) (sym q) g
  first r (inr x) = absurd x

  by : (r : Ref) → Has (to_globals ∷ []) r ⊎ Has rs r → Knows v r
  by r (inl i) = first r i
  by r (inr i) = each_among v rs k r i

pub alive_fresh : {Pass Q Z F : Type 0} (of : Pass → TableId) (view : Pass → View) (kept : Q → Pass → Type 0) (pre : F → Z → HeldJob → Pass → Type 0) (post : F → Z → HeldJob → Pass → Q → Type 0)
    (home : TableId) (S : Script) (N : ℕ) (j : Job) (place : TableId) (v w : View) (own : Private) (number : ℕ) (refs : List Ref) (ks : List (Kin Q)) (f : F) (z : Z)
    → place ≡ home → number ≡ number_of j → own ≡ bare number → Fresh S N j v → w ≡ polled_view v → ks ≡ [] → ((r : Ref) → Has refs r → Knows w r)
    → Spawns of view kept pre post home S N v f z → Alive of view kept pre post home S N j place w own number refs ks f z
alive_fresh {Q = Q} of view kept pre post home S N j place v w own number refs ks f z e m b fr q none k s =
    subst (λ o. Alive of view kept pre post home S N j place w own number refs o f z) (sym none) record {
      home_is = e;
      numbered = m;
      mine = ap (λ (h : Private). h.thread) b ∙ m;
      sound = sound_fresh S N j v w [] fr q refl;
      known = k;
      absent = subst (λ (l : Log). Each (HasLeft own) (ids_moved l.entries)) (sym (ap (λ (o : View). o.log) q ∙ fr.log_is)) tt;
      promised = λ i x k' q' e'. absurd (cc);
      spawns = subst (λ o. Spawns of view kept pre post home S N o f z) (sym q) s;
    }

-- ---- a thread that does nothing

pub left_at_once : (S : Script) (N : ℕ) (j : Job) (v u w : View) → Fresh S N j v → u ≡ polled_view v → w ≡ ended_view 0 u Memory → Left S N j [] w Memory
left_at_once S N j v u w fr p e =
    let l : u.log ≡ fresh = ap (λ (o : View). o.log) p ∙ fr.log_is in
    let h = bare (number_of j) in
    let s = sound_fresh {Q = ℕ} S N j v u [] fr p refl in
    ends_by {Q = ℕ} S N j u u w [] [] 0 h Memory Memory Memory false h refl s (all_gathered u.log Memory) s (λ i x b q. absurd (omega (arith, b))) (tells [] [] refl (nothing_waits h) e)
    (subst (λ o. Comes S N (start_of S N j) o h Memory 0) (sym l) (cut_at_once S N (start_of S N j) (number_of j))) (memory_cause u.log)
