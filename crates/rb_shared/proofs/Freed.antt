-- A thread that has ended owns no mutex.
use Rattle.std.proofs.Common.{◌≡◌, ℕ, ◌==◌, Bool, true, false, cond, List, [], ◌∷◌, ◌++◌, map, Option, Some, None, refl, sym, ap, ◌∙◌, subst}
use Rattle.rb_model.specs.declared.value.Id.{Id}
use Rattle.rb_model.specs.Values.{Value, same_id}
use Rattle.rb_model.specs.Acts.{Act, SetField, Put, Push, Unshift, Pop, Shift, DeleteAt, KPut, KDelete, Clear, Join, Lock, Unlock}
use Rattle.rb_model.specs.Ends.{End as Ending}
use Rattle.rb_model.specs.Things.{Thing, Field, Object, Elements, Pairs, Mutex, Thread, becomes, owner_behind}
use Rattle.rb_model.specs.Private.{Item}
use Rattle.rb_model.specs.Log.{Call, On, Start, Gather, Print, End}
use Rattle.rb_shared.specs.Lists.{Each}
use Rattle.rb_shared.specs.Store.{Store, found, with_thing, is_full}
use Rattle.rb_shared.specs.Step.{behind_act, store_behind, with_act, ended_item, ended_thing, new_thread}
use Rattle.rb_shared.specs.History.{Event, Leads}
use Rattle.rb_shared.specs.Laws.{IsOwnMutex, MovesOwnMutexes, EndedOwnNothing}
use Rattle.rb_shared.proofs.Runs.{each_append}

-- whether a thing is a mutex of this thread
abbrev pub is_owned : ℕ → Thing → Bool
is_owned t (Mutex (Some owner)) = owner == t
is_owned t thing = false

-- the thread owns none of a store
abbrev pub OwnsNone : ℕ → Store → Type 0
OwnsNone t z = Each (λ (x : Item). is_owned t x.thing ≡ false) z

-- ---- stores

none_found : (t : ℕ) (z : Store) (id : Id) (thing : Thing) → OwnsNone t z → found z id ≡ Some thing → is_owned t thing ≡ false
none_found t [] id thing none f = absurd (cc)
none_found t (x ∷ xs) id thing (first, rest) f = by (same_id x.id id) (none_found t xs id thing rest) f
  where
    by : (b : Bool) → (found xs id ≡ Some thing → is_owned t thing ≡ false) → cond b (Some x.thing) (found xs id) ≡ Some thing → is_owned t thing ≡ false
    by true later e = let is : x.thing ≡ thing = cc in subst (λ y. is_owned t y ≡ false) is first
    by false later e = later e

none_with : (t : ℕ) (z : Store) (id : Id) (thing : Thing) → OwnsNone t z → is_owned t thing ≡ false → OwnsNone t (with_thing z id thing)
none_with t [] id thing none h = tt
none_with t (x ∷ xs) id thing (first, rest) h = by (same_id x.id id) (none_with t xs id thing rest h)
  where
    by : (b : Bool) → OwnsNone t (with_thing xs id thing) → OwnsNone t (cond b (record { id = x.id; thing = thing } ∷ xs) (x ∷ with_thing xs id thing))
    by true later = (h, rest)
    by false later = (first, later)

-- ---- what one thread's act makes of a thing that another does not own

owner_behind_act : (t u : ℕ) (act : Act) (owner : Option ℕ) → (u == t) ≡ false → is_owned t (Mutex owner) ≡ false → is_owned t (Mutex (owner_behind u act owner)) ≡ false
owner_behind_act t u Lock None other h = other
owner_behind_act t u Lock (Some owner) other h = h
owner_behind_act t u Unlock None other h = refl
owner_behind_act t u Unlock (Some owner) other h = by (owner == u)
  where
    by : (b : Bool) → is_owned t (Mutex (cond b None (Some owner))) ≡ false
    by true = refl
    by false = h
owner_behind_act t u act owner other h = h

-- an act makes of an object an object, and so on
still_object : (t class : ℕ) (fields : List Field) (act : Act) → is_owned t (becomes (Object class fields) act) ≡ false
still_object t class fields (SetField name v) = refl
still_object t class fields act = refl

still_list : (t : ℕ) (values : List Value) (act : Act) → is_owned t (becomes (Elements values) act) ≡ false
still_list t values (Put i v) = refl
still_list t values (Push v) = refl
still_list t values (Unshift v) = refl
still_list t values Pop = refl
still_list t values Shift = refl
still_list t values (DeleteAt i) = refl
still_list t values Clear = refl
still_list t values act = refl

still_hash : (t : ℕ) (pairs : List (Value × Value)) (act : Act) → is_owned t (becomes (Pairs pairs) act) ≡ false
still_hash t pairs (KPut k v) = refl
still_hash t pairs (KDelete k) = refl
still_hash t pairs Clear = refl
still_hash t pairs act = refl

act_leaves : (t u : ℕ) (thing : Thing) (act : Act) → (u == t) ≡ false → is_owned t thing ≡ false → is_owned t (behind_act u thing act) ≡ false
act_leaves t u (Mutex owner) act other h = owner_behind_act t u act owner other h
act_leaves t u (Thread s) Join other h = refl
act_leaves t u (Thread s) act other h = refl
act_leaves t u (Object class fields) act other h = still_object t class fields act
act_leaves t u (Elements values) act other h = still_list t values act
act_leaves t u (Pairs pairs) act other h = still_hash t pairs act

with_act_leaves : (t u : ℕ) (w : Store) (id : Id) (act : Act) (o : Option Thing) → (u == t) ≡ false → found w id ≡ o → OwnsNone t w → OwnsNone t (with_act u w id o act)
with_act_leaves t u w id act None other f none = none
with_act_leaves t u w id act (Some thing) other f none = none_with t w id (behind_act u thing act) none (act_leaves t u thing act other (none_found t w id thing none f))

-- ---- ends

-- its own end frees its mutexes, and another's leaves it none
freed : (t : ℕ) (how : Ending) (thing : Thing) → is_owned t (ended_thing t how thing) ≡ false
freed t how (Mutex None) = refl
freed t how (Mutex (Some owner)) = by (owner == t) refl
  where
    by : (b : Bool) → (owner == t) ≡ b → is_owned t (Mutex (cond b None (Some owner))) ≡ false
    by true is = refl
    by false is = is
freed t how (Thread s) = refl
freed t how (Object class fields) = refl
freed t how (Elements values) = refl
freed t how (Pairs pairs) = refl

all_freed : (t : ℕ) (how : Ending) (z : Store) → OwnsNone t (map (ended_item t how) z)
all_freed t how [] = tt
all_freed t how (x ∷ xs) = (freed t how x.thing, all_freed t how xs)

end_leaves : (t u : ℕ) (how : Ending) (thing : Thing) → is_owned t thing ≡ false → is_owned t (ended_thing u how thing) ≡ false
end_leaves t u how (Mutex None) h = refl
end_leaves t u how (Mutex (Some owner)) h = by (owner == u)
  where
    by : (b : Bool) → is_owned t (Mutex (cond b None (Some owner))) ≡ false
    by true = refl
    by false = h
end_leaves t u how (Thread s) h = refl
end_leaves t u how (Object class fields) h = refl
end_leaves t u how (Elements values) h = refl
end_leaves t u how (Pairs pairs) h = refl

ends_leave : (t u : ℕ) (how : Ending) (z : Store) → OwnsNone t z → OwnsNone t (map (ended_item u how) z)
ends_leave t u how [] none = tt
ends_leave t u how (x ∷ xs) (first, rest) = (end_leaves t u how x.thing first, ends_leave t u how xs rest)

-- ---- calls and runs

start_leaves : (t : ℕ) (b : Bool) (w : Store) (x : Item) → is_owned t x.thing ≡ false → OwnsNone t w → OwnsNone t (cond b w (w ++ x ∷ []))
start_leaves t true w x h none = none
start_leaves t false w x h none = each_append _ w (x ∷ []) none (h, tt)

call_leaves : (t slots u : ℕ) (w : Store) (c : Call) → (u == t) ≡ false → OwnsNone t w → OwnsNone t (store_behind slots w u c)
call_leaves t slots u w (On r act) other none = with_act_leaves t u w r.id act (found w r.id) other refl none
call_leaves t slots u w (Gather r) other none = with_act_leaves t u w r.id Join (found w r.id) other refl none
call_leaves t slots u w (Start thing body values) other none = start_leaves t (is_full slots w u) w (new_thread w u thing) refl none
call_leaves t slots u w (Print bytes) other none = none
call_leaves t slots u w (End how) other none = ends_leave t u how w none

own_mutex : (t u : ℕ) (thing : Thing) → (u == t) ≡ false → IsOwnMutex u thing → is_owned t thing ≡ false
own_mutex t u (Mutex None) other own = refl
own_mutex t u (Mutex (Some owner)) other own = ap (λ n. n == t) (own owner refl) ∙ other
own_mutex t u (Thread s) other own = refl
own_mutex t u (Object class fields) other own = refl
own_mutex t u (Elements values) other own = refl
own_mutex t u (Pairs pairs) other own = refl

moved_leave : (t u : ℕ) (xs : List Item) → (u == t) ≡ false → Each (λ (x : Item). IsOwnMutex u x.thing) xs → OwnsNone t xs
moved_leave t u [] other own = tt
moved_leave t u (x ∷ xs) other (first, rest) = (own_mutex t u x.thing other first, moved_leave t u xs other rest)

run_leaves : (t slots : ℕ) (es : List Event) (z z' : Store) → Each (λ (e : Event). (e.thread == t) ≡ false) es → Each MovesOwnMutexes es → OwnsNone t z → Leads slots z es z' → OwnsNone t z'
run_leaves t slots [] z z' others own none l = subst (OwnsNone t) (sym l) none
run_leaves t slots (e ∷ es) z z' (other, others) (own, owns) none (y, s, l) =
    let joined = each_append _ z e.entry.moved none (moved_leave t e.thread e.entry.moved other own) in
    run_leaves t slots es y z' others owns (subst (OwnsNone t) (sym s.store_is) (call_leaves t slots e.thread (z ++ e.entry.moved) e.entry.call other joined)) l

pub ended_own_nothing : EndedOwnNothing
ended_own_nothing slots y y' z last behind how id owner s call l others own f =
    let ended : y' ≡ map (ended_item last.thread how) (y ++ last.entry.moved) = s.store_is ∙ ap (store_behind slots (y ++ last.entry.moved) last.thread) call in
    let none = subst (OwnsNone last.thread) (sym ended) (all_freed last.thread how (y ++ last.entry.moved)) in
    none_found last.thread z id (Mutex (Some owner)) (run_leaves last.thread slots behind y' z others own none l) f
