-- No act makes a list or a hash longer than it may be, or gives a mutex to another thread.
use Rattle.std.proofs.Common.{◌≡◌, ℕ, suc, ◌-◌, ◌<◌, ◌≤◌, ◌==◌, Bool, true, false, cond, List, [], ◌∷◌, ◌++◌, length, take, drop, replicate, Option, Some, None, refl, ap, sym, subst, arith}
use Rattle.std.specs.Prelude.{nat_lt, ◌||◌}
use Rattle.std.proofs.lemmas.Grind.{common_steps}
use Rattle.std.proofs.lemmas.Bool.{ltb-true, ltb-false}
use Rattle.std.proofs.lemmas.List.{length-append, length-replicate, length-set, length-take, length-drop}
use Rattle.rb_model.specs.Values.{Value as Val, Nil, same}
use Rattle.rb_model.specs.Acts.{Act, SetField, Put, Push, Unshift, Pop, Shift, DeleteAt, KPut, KDelete, Clear, Lock, Unlock}
use Rattle.rb_model.specs.Things.{Thing, Object, Elements, Pairs, Mutex, Thread, becomes, becomes_by, owner_behind, has_key, has_room, index_of, last_place, may_put, put, with_element, with_pair, without_element, without_key}
use Rattle.local_heap.specs.Limits.{AreKeysOnce, IsOwnMutex, IsWithin}
use Rattle.local_heap.proofs.Keys.{once_with, once_without}

-- ---- lists

element_within : (b : Bool) (vs : List Val) (n : ℕ) (v : Val) → nat_lt n (length vs) ≡ b → length vs ≤ 16777216 → n < 16777216 → length (with_element vs n v) ≤ 16777216
element_within true vs n v is fits room = rw is (subst (λ k. k ≤ 16777216) (sym (length-set vs n v)) fits)
element_within false vs n v is fits room =
    let beyond : length vs ≤ n = ltb-false n (length vs) is in
    let long : length (vs ++ replicate (n - length vs) Nil ++ v ∷ []) ≡ suc n = grind (arith, common_steps, length-append, length-replicate) in
    rw is (subst (λ k. k ≤ 16777216) (sym long) (omega arith))

put_within : (vs : List Val) (p : Option ℕ) (v : Val) → length vs ≤ 16777216 → length (put vs p v) ≤ 16777216
put_within vs None v fits = fits
put_within vs (Some n) v fits = by (nat_lt n 16777216) refl
  where
    by : (b : Bool) → nat_lt n 16777216 ≡ b → length (cond b (with_element vs n v) vs) ≤ 16777216
    by true e = element_within (nat_lt n (length vs)) vs n v refl fits (ltb-true n 16777216 e)
    by false e = fits

grown_within : {X : Type 0} (vs ws : List X) (b : Bool) → has_room (length vs) ≡ b → length ws ≡ suc (length vs) → length vs ≤ 16777216 → length (cond b ws vs) ≤ 16777216
grown_within vs ws true e longer fits = let room = ltb-true (length vs) 16777216 e in omega (arith, longer, room)
grown_within vs ws false e longer fits = fits

less_within : (vs : List Val) (p : Option ℕ) → length vs ≤ 16777216 → length (without_element vs p) ≤ 16777216
less_within vs None fits = fits
less_within vs (Some n) fits =
    let parts = length-append (take n vs) (drop (suc n) vs) in
    let front = length-take n vs in
    let back = length-drop (suc n) vs in
    grind (arith, common_steps)

-- ---- pairs

pair_there : (k v : Val) (ps : List (Val × Val)) → has_key k ps ≡ true → length (with_pair k v ps) ≡ length ps
pair_there k v [] there = absurd (cc)
pair_there k v (p ∷ ps) there = (elim (same p.0 k) as (λ b. same p.0 k ≡ b → length (with_pair k v (p ∷ ps)) ≡ suc (length ps)) [
  | true ↦ λ e. rw e refl
  | false ↦ λ e. rw e (ap suc (pair_there k v ps (rw e at there)))
]) refl

pair_more : (k v : Val) (ps : List (Val × Val)) → length (with_pair k v ps) ≤ suc (length ps)
pair_more k v [] = omega arith
pair_more k v (p ∷ ps) = (elim (same p.0 k) as (λ b. same p.0 k ≡ b → length (with_pair k v (p ∷ ps)) ≤ suc (suc (length ps))) [
  | true ↦ λ e. rw e (omega arith)
  | false ↦ λ e. rw e (let h = pair_more k v ps in omega (arith, h))
]) refl

pair_within : (k v : Val) (ps : List (Val × Val)) (b c : Bool) → has_key k ps ≡ b → has_room (length ps) ≡ c → length ps ≤ 16777216 → length (cond (b || c) (with_pair k v ps) ps) ≤ 16777216
pair_within k v ps true c there room fits = subst (λ n. n ≤ 16777216) (sym (pair_there k v ps there)) fits
pair_within k v ps false true there room fits =
    let lt = ltb-true (length ps) 16777216 room in
    let h = pair_more k v ps in
    omega (arith, h, lt)
pair_within k v ps false false there room fits = fits

key_less : (k : Val) (ps : List (Val × Val)) → length (without_key k ps) ≤ length ps
key_less k [] = omega arith
key_less k (p ∷ ps) = (elim (same p.0 k) as (λ b. same p.0 k ≡ b → length (without_key k (p ∷ ps)) ≤ suc (length ps)) [
  | true ↦ λ e. rw e (omega arith)
  | false ↦ λ e. rw e (let h = key_less k ps in omega (arith, h))
]) refl

put_once : (k v : Val) (b : Bool) (ps : List (Val × Val)) → AreKeysOnce ps → AreKeysOnce (cond b (with_pair k v ps) ps)
put_once k v true ps once = once_with k v ps once
put_once k v false ps once = once

-- ---- mutexes

owned_within : (t : ℕ) (act : Act) (owner : Option ℕ) → IsOwnMutex t owner → IsOwnMutex t (owner_behind t act owner)
owned_within t Lock None own = refl
owned_within t Lock (Some owner) own = own
owned_within t Unlock None own = own
owned_within t Unlock (Some owner) own = by (owner == t)
  where
    by : (b : Bool) → IsOwnMutex t (cond b None (Some owner))
    by true = tt
    by false = own
owned_within t act owner own = own

-- ---- any thing

plain_within : (t : ℕ) (thing : Thing) (act : Act) → IsWithin t thing → IsWithin t (becomes thing act)
plain_within t (Object c fs) (SetField name v) fits = tt
plain_within t (Elements vs) (Put i v) fits = put_within vs (index_of (length vs) i) v fits
plain_within t (Elements vs) (Push v) fits = grown_within vs (vs ++ v ∷ []) (has_room (length vs)) refl (grind (arith, common_steps, length-append)) fits
plain_within t (Elements vs) (Unshift v) fits = grown_within vs (v ∷ vs) (has_room (length vs)) refl refl fits
plain_within t (Elements vs) Pop fits = less_within vs (last_place (length vs)) fits
plain_within t (Elements vs) Shift fits = let h = length-drop 1 vs in omega (arith, h, fits)
plain_within t (Elements vs) (DeleteAt i) fits = less_within vs (index_of (length vs) i) fits
plain_within t (Elements vs) Clear fits = omega arith
plain_within t (Pairs ps) (KPut k v) fits = (pair_within k v ps (has_key k ps) (has_room (length ps)) refl refl fits.0, put_once k v (may_put k ps) ps fits.1)
plain_within t (Pairs ps) (KDelete k) fits = (let h = key_less k ps in let few = fits.0 in omega (arith, h, few), once_without k ps fits.1)
plain_within t (Pairs ps) Clear fits = (omega arith, tt)
plain_within t thing act fits = fits

pub stays_within : (t : ℕ) (thing : Thing) (act : Act) → IsWithin t thing → IsWithin t (becomes_by t thing act)
stays_within t (Object c fs) act fits = plain_within t (Object c fs) act fits
stays_within t (Elements vs) act fits = plain_within t (Elements vs) act fits
stays_within t (Pairs ps) act fits = plain_within t (Pairs ps) act fits
stays_within t (Mutex owner) act fits = owned_within t act owner fits
stays_within t (Thread s) act fits = fits
