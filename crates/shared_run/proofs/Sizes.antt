-- A plain step leaves the sort of a thing, and makes no list and no hash too long.
use Rattle.std.proofs.Common.{◌≡◌, ◌≤◌, ◌<◌, ◌-◌, ◌||◌, ℕ, zero, suc, Bool, true, false, cond, List, [], ◌∷◌, ◌++◌, length, take, drop, replicate, slice_set, Option, Some, None, refl, ap, arith, ltb-true, ltb-false, length-append}
use Rattle.std.specs.Prelude.{nat_lt}
use Rattle.std.proofs.lemmas.List.{length-replicate}
use Rattle.rb_model.specs.Values.{Value, Nil, same}
use Rattle.rb_model.specs.Acts.{Act, SetField, Put, Push, Unshift, Pop, Shift, DeleteAt, KPut, KDelete, Clear, Join}
use Rattle.rb_model.specs.Ends.{End as Ending}
use Rattle.rb_model.specs.Things.{Thing, Object, Elements, Pairs, Mutex, Thread, index_of, last_place, with_element, put, has_room, without_element, with_pair, without_key, has_key, max_elements}
use Rattle.rb_shared.specs.Step.{behind_act, ended_thing}
use Rattle.shared_run.specs.Standing.{sort_in, IsSized}

-- ---- lengths

shorter : (n : ℕ) (vs : List Value) → length (take n vs ++ drop (suc n) vs) ≤ length vs
shorter zero [] = omega arith
shorter zero (v ∷ vs) = omega arith
shorter (suc n) [] = omega arith
shorter (suc n) (v ∷ vs) = let s = shorter n vs in omega (arith, s)

set_length : (n : ℕ) (w : Value) (vs : List Value) → length (slice_set vs n w) ≡ length vs
set_length n w [] = refl
set_length zero w (v ∷ vs) = refl
set_length (suc n) w (v ∷ vs) = ap suc (set_length n w vs)

within_either : (b : Bool) (xs ys : List Value) (m : ℕ) → (b ≡ true → length xs ≤ m) → (b ≡ false → length ys ≤ m) → length (cond b xs ys) ≤ m
within_either true xs ys m p q = p refl
within_either false xs ys m p q = q refl

with_length : (vs : List Value) (n : ℕ) (v : Value) → n < max_elements → length vs ≤ max_elements → length (with_element vs n v) ≤ max_elements
with_length vs n v small le = within_either (nat_lt n (length vs)) (slice_set vs n v) (vs ++ replicate (n - length vs) Nil ++ v ∷ []) max_elements
    (λ b. let s = set_length n v vs in omega (arith, s, le))
    (λ b.
    let past : length vs ≤ n = ltb-false n (length vs) b in
    let whole = length-append (vs ++ replicate (n - length vs) Nil) (v ∷ []) in
    let rest = length-append vs (replicate (n - length vs) Nil) in
    let nils = length-replicate (n - length vs) Nil in
    omega (arith, whole, rest, nils, past, small))

put_length : (vs : List Value) (i : Option ℕ) (v : Value) → length vs ≤ max_elements → length (put vs i v) ≤ max_elements
put_length vs None v le = le
put_length vs (Some n) v le = within_either (nat_lt n max_elements) (with_element vs n v) vs max_elements (λ b. with_length vs n v (ltb-true n max_elements b) le) (λ b. le)

without_length : (vs : List Value) (i : Option ℕ) → length vs ≤ max_elements → length (without_element vs i) ≤ max_elements
without_length vs None le = le
without_length vs (Some n) le = let s = shorter n vs in omega (arith, s, le)

dropped : (n : ℕ) (vs : List Value) (m : ℕ) → length vs ≤ m → length (drop n vs) ≤ m
dropped zero vs m le = le
dropped (suc n) [] m le = le
dropped (suc n) (v ∷ vs) m le = dropped n vs m (omega (arith, le))

-- ---- pairs

with_key_first : (b : Bool) (x : Value × Value) (k v : Value) (ps : List (Value × Value)) (m : ℕ) → (has_key k ps ≡ true → length (with_pair k v ps) ≡ length ps)
    → (b || has_key k ps) ≡ true → length (cond b ((x.0, v) ∷ ps) (x ∷ with_pair k v ps)) ≡ suc (length ps)
with_key_first true x k v ps m more h = refl
with_key_first false x k v ps m more h = ap suc (more h)

with_key : (k v : Value) (ps : List (Value × Value)) → has_key k ps ≡ true → length (with_pair k v ps) ≡ length ps
with_key k v [] h = absurd (cc)
with_key k v (x ∷ ps) h = with_key_first (same x.0 k) x k v ps 0 (with_key k v ps) h

one_more_first : (b : Bool) (x : Value × Value) (k v : Value) (ps : List (Value × Value)) → length (with_pair k v ps) ≤ suc (length ps)
    → length (cond b ((x.0, v) ∷ ps) (x ∷ with_pair k v ps)) ≤ suc (suc (length ps))
one_more_first true x k v ps le = omega arith
one_more_first false x k v ps le = omega (arith, le)

one_more : (k v : Value) (ps : List (Value × Value)) → length (with_pair k v ps) ≤ suc (length ps)
one_more k v [] = omega arith
one_more k v (x ∷ ps) = one_more_first (same x.0 k) x k v ps (one_more k v ps)

key_put : (k v : Value) (ps : List (Value × Value)) (a b : Bool) → has_key k ps ≡ a → has_room (length ps) ≡ b → length ps ≤ max_elements → length (cond (a || b) (with_pair k v ps) ps) ≤ max_elements
key_put k v ps true b h r le = let s = with_key k v ps h in omega (arith, s, le)
key_put k v ps false true h r le = let s = one_more k v ps in let room = ltb-true (length ps) max_elements r in omega (arith, s, room)
key_put k v ps false false h r le = le

less_first : (b : Bool) (x : Value × Value) (k : Value) (ps : List (Value × Value)) → length (without_key k ps) ≤ length ps → length (cond b ps (x ∷ without_key k ps)) ≤ suc (length ps)
less_first true x k ps le = omega arith
less_first false x k ps le = omega (arith, le)

less_key : (k : Value) (ps : List (Value × Value)) → length (without_key k ps) ≤ length ps
less_key k [] = omega arith
less_key k (x ∷ ps) = less_first (same x.0 k) x k ps (less_key k ps)

-- ---- things

grown : (vs : List Value) (xs : List Value) → length xs ≡ suc (length vs) → length vs ≤ max_elements → length (cond (has_room (length vs)) xs vs) ≤ max_elements
grown vs xs one le = within_either (has_room (length vs)) xs vs max_elements (λ b. let room = ltb-true (length vs) max_elements b in omega (arith, room, one)) (λ b. le)

pub behind_sized : (t : ℕ) (thing : Thing) (act : Act) → IsSized thing → IsSized (behind_act t thing act)
behind_sized t (Thread s) Join le = tt
behind_sized t (Thread s) act le = tt
behind_sized t (Mutex owner) act le = tt
behind_sized t (Object class fields) (SetField name v) le = tt
behind_sized t (Object class fields) act le = tt
behind_sized t (Elements vs) (Put i v) le = put_length vs (index_of (length vs) i) v le
behind_sized t (Elements vs) (Push v) le = grown vs (vs ++ v ∷ []) (let s = length-append vs (v ∷ []) in omega (arith, s)) le
behind_sized t (Elements vs) (Unshift v) le = grown vs (v ∷ vs) refl le
behind_sized t (Elements vs) Pop le = without_length vs (last_place (length vs)) le
behind_sized t (Elements vs) Shift le = dropped 1 vs max_elements le
behind_sized t (Elements vs) (DeleteAt i) le = without_length vs (index_of (length vs) i) le
behind_sized t (Elements vs) Clear le = omega arith
behind_sized t (Elements vs) act le = le
behind_sized t (Pairs ps) (KPut k v) le = key_put k v ps (has_key k ps) (has_room (length ps)) refl refl le
behind_sized t (Pairs ps) (KDelete k) le = let s = less_key k ps in omega (arith, s, le)
behind_sized t (Pairs ps) Clear le = omega arith
behind_sized t (Pairs ps) act le = le

pub ended_sized : (t : ℕ) (how : Ending) (thing : Thing) → IsSized thing → IsSized (ended_thing t how thing)
ended_sized t how (Thread s) le = tt
ended_sized t how (Mutex None) le = tt
ended_sized t how (Mutex (Some owner)) le = tt
ended_sized t how (Object class fields) le = le
ended_sized t how (Elements vs) le = le
ended_sized t how (Pairs ps) le = le

-- ---- sorts

pub behind_sort : (t : ℕ) (thing : Thing) (act : Act) → sort_in (behind_act t thing act) ≡ sort_in thing
behind_sort t (Thread s) Join = refl
behind_sort t (Thread s) act = refl
behind_sort t (Mutex owner) act = refl
behind_sort t (Object class fields) (SetField name v) = refl
behind_sort t (Object class fields) act = refl
behind_sort t (Elements vs) (Put i v) = refl
behind_sort t (Elements vs) (Push v) = refl
behind_sort t (Elements vs) (Unshift v) = refl
behind_sort t (Elements vs) Pop = refl
behind_sort t (Elements vs) Shift = refl
behind_sort t (Elements vs) (DeleteAt i) = refl
behind_sort t (Elements vs) Clear = refl
behind_sort t (Elements vs) act = refl
behind_sort t (Pairs ps) (KPut k v) = refl
behind_sort t (Pairs ps) (KDelete k) = refl
behind_sort t (Pairs ps) Clear = refl
behind_sort t (Pairs ps) act = refl

pub ended_sort : (t : ℕ) (how : Ending) (thing : Thing) → sort_in (ended_thing t how thing) ≡ sort_in thing
ended_sort t how (Thread s) = refl
ended_sort t how (Mutex None) = refl
ended_sort t how (Mutex (Some owner)) = refl
ended_sort t how (Object class fields) = refl
ended_sort t how (Elements vs) = refl
ended_sort t how (Pairs ps) = refl
