-- What moves in.
use Rattle.std.proofs.Common.{◌≡◌, ◌<◌, ◌+◌, ◌-◌, ℕ, zero, suc, Bool, true, false, List, [], ◌∷◌, ◌++◌, length, map, take, drop, Option, Some, None, refl, sym, ap, ◌∙◌, subst, arith}
use Rattle.std.specs.Prelude.{◌||◌, nat_le, slice_get, unwrap_or, Result, Ok, Err, OnOk, OnErr}
use Rattle.std.specs.List.{AllByRecursion, IsDistinct}
use Rattle.std.proofs.lemmas.List.{append_assoc, append-nil, drop_at, take_at, take_all}
use Rattle.std.proofs.lemmas.Option.{same_Some}
use Rattle.rb_model.specs.declared.moved.MovedItem.{MovedItem}
use Rattle.rb_model.specs.declared.value.Id.{Id}
use Rattle.rb_model.specs.declared.value.Value.{Value as Held}
use Rattle.rb_model.specs.Values.{plain, same}
use Rattle.rb_model.specs.Sameness.{same_equivalence}
use Rattle.rb_model.specs.Doing.{pair}
use Rattle.rb_model.specs.Moving.{item_of, items_of}
use Rattle.rb_model.specs.Things.{Thing, Object, Elements, Pairs, Mutex, Thread, gathered, has_key, key_of}
use Rattle.rb_model.specs.Private.{Item}
use Rattle.rb_shared.specs.Lists.{Each}
use Rattle.rb_shared.specs.Asking.{ArePairs, MayMove}
use Rattle.rb_shared.specs.Store.{Store, is_there, is_full, thread_in, threads, ungathered_count}
use Rattle.rb_shared.specs.Step.{AreNew, new_thread}
use Rattle.ordered_pairs.proofs.Row.{distinct_gathered}
use Rattle.thing_store.specs.Kept.{HasKeysOnce}
use Rattle.thing_store.specs.declared.threads.Row.{Row}
use Rattle.thing_store.specs.Counted.{IsCounted, IsLonger, generation_in, is_full_by, number_in, row_of}
use Rattle.thing_store.proofs.Counting.{counted_thing, counted_thread, rows_of}

neither : (a b : Bool) → (a || b) ≡ false → (a ≡ false) × (b ≡ false)
neither true b h = absurd (cc)
neither false b h = (refl, h)

-- ---- hashes

-- a key that none of these is differs from each of them
all_differ : (key : Held) (items : List (Held × Held)) → has_key (plain key) (map pair items) ≡ false → AllByRecursion (λ y. same (plain key) y ≡ false) (map key_of (map pair items))
all_differ key [] none = tt
all_differ key (p ∷ ps) none =
    let parts = neither (same (plain p.0) (plain key)) (has_key (plain key) (map pair ps)) none in
    (same_equivalence.symm key p.0 ∙ parts.0, all_differ key ps parts.1)

distinct : (items : List (Held × Held)) → ArePairs (map pair items) → IsDistinct same (map key_of (map pair items))
unfolding IsDistinct
distinct [] once = tt
distinct (p ∷ ps) once = (all_differ p.0 ps once.0, distinct ps once.1)

-- pairs whose keys differ are the same one after the other
pub kept_pairs : (items : List (Held × Held)) → ArePairs (map pair items) → gathered (map pair items) ≡ map pair items
kept_pairs items once = distinct_gathered (map pair items) (distinct items once)

-- ---- things

pub keys_once : (t : ℕ) (thing : Thing) → MayMove t thing → HasKeysOnce thing
keys_once t (Object class fields) may = tt
keys_once t (Elements values) may = tt
keys_once t (Pairs pairs) may = may.1
keys_once t (Mutex owner) may = tt
keys_once t (Thread s) may = tt

pub no_thread : (t : ℕ) (thing : Thing) → MayMove t thing → thread_in thing ≡ []
no_thread t (Object class fields) may = refl
no_thread t (Elements values) may = refl
no_thread t (Pairs pairs) may = refl
no_thread t (Mutex owner) may = refl
no_thread t (Thread s) may = absurd may

pub no_number : (t : ℕ) (thing : Thing) → MayMove t thing → number_in thing ≡ None
no_number t (Object class fields) may = refl
no_number t (Elements values) may = refl
no_number t (Pairs pairs) may = refl
no_number t (Mutex owner) may = refl
no_number t (Thread s) may = absurd may

-- ---- one thing after the other

pub new_at : (z : Store) (ms : List MovedItem) (n : ℕ) (m : MovedItem) → AreNew z (items_of ms) → slice_get ms n ≡ Some m → is_there (z ++ items_of (take n ms)) m.id ≡ false
new_at z [] n m new at = absurd (cc)
new_at z (x ∷ xs) zero m new at = ap (λ w. is_there w m.id) (append-nil z) ∙ ap (λ (y : MovedItem). is_there z y.id) (sym (same_Some x m at)) ∙ new.0
new_at z (x ∷ xs) (suc n) m new at =
    ap (λ w. is_there w m.id) (sym (append_assoc z (item_of x ∷ []) (items_of (take n xs)))) ∙ new_at (z ++ item_of x ∷ []) xs n m new.1 at

module _ (t : ℕ) where
  pub may_at : (ms : List MovedItem) (n : ℕ) (m : MovedItem) → Each (λ (x : Item). MayMove t x.thing) (items_of ms) → slice_get ms n ≡ Some m → MayMove t (item_of m).thing
  may_at [] n m may at = absurd (cc)
  may_at (x ∷ xs) zero m may at = subst (λ (y : MovedItem). MayMove t (item_of y).thing) (same_Some x m at) may.0
  may_at (x ∷ xs) (suc n) m may at = may_at xs n m may.1 at

  no_threads : (ms : List MovedItem) (n : ℕ) → Each (λ (x : Item). MayMove t x.thing) (items_of ms) → threads (items_of (take n ms)) ≡ []
  no_threads [] zero may = refl
  no_threads [] (suc n) may = refl
  no_threads (x ∷ xs) zero may = refl
  no_threads (x ∷ xs) (suc n) may = ap (λ l. l ++ threads (items_of (take n xs))) (no_thread t (item_of x).thing may.0) ∙ no_threads xs n may.1

  -- so many of the things that move came, and then memory was refused
  pub longer_by : (z y : Store) (ms : List MovedItem) (n : ℕ) → Each (λ (x : Item). MayMove t x.thing) (items_of ms) → y ≡ z ++ items_of (take n ms) → IsLonger z y
  longer_by z y ms n may is = (items_of (take n ms), is, no_threads ms n may)

pub one_more : (ms : List MovedItem) (n : ℕ) (m : MovedItem) → slice_get ms n ≡ Some m → items_of (take n ms) ++ item_of m ∷ [] ≡ items_of (take (suc n) ms)
one_more [] n m at = absurd (cc)
one_more (x ∷ xs) zero m at = ap (λ y. item_of y ∷ []) (sym (same_Some x m at))
one_more (x ∷ xs) (suc n) m at = ap (λ l. item_of x ∷ l) (one_more xs n m at)

-- ---- what came is taken out again

pub cut_off : (z y : Store) (count : ℕ) → count ≡ length z → IsLonger z y → (threads (drop count y) ≡ []) × (take count y ≡ z)
cut_off z y count is longer = (
  ap (λ l. threads (drop count l)) longer.1 ∙ ap threads (drop_at z longer.0 count (sym is)) ∙ longer.2,
  ap (take count) longer.1 ∙ take_at z longer.0 count (sym is),
)

pub within_some : (ms : List MovedItem) (n : ℕ) → n < length ms → None ≡ slice_get ms n → ⊥
within_some [] n lt none = omega (arith, lt)
within_some (x ∷ xs) zero lt none = let z : ◌≡◌ {A = Option MovedItem} None (Some x) = none in cc
within_some (x ∷ xs) (suc n) lt none = within_some xs n (omega (arith, lt)) none

-- ---- results

module _ {X E : Type 0} where
  pub any_err : (r : Result X E) {P : Type 0} → P → OnErr r P
  any_err (Ok x) p = tt
  any_err (Err e) p = p

  pub err_then : (r : Result X E) (P Q : Type 0) → (P → Q) → OnErr r P → OnErr r Q
  err_then (Ok x) P Q f h = tt
  err_then (Err e) P Q f h = f h

  pub laid_counted : (r : Result X E) (z y : Store) (x : Item) (rows : List Row) (u : ℕ) → OnOk r (y ≡ z ++ x ∷ []) → OnErr r (y ≡ z) → thread_in x.thing ≡ [] → number_in x.thing ≡ None
      → IsCounted z rows u → IsCounted y rows u
  laid_counted (Ok done) z y x rows u ok err none number counted = subst (λ w. IsCounted w rows u) (sym ok) (counted_thing z rows u x none number counted)
  laid_counted (Err e) z y x rows u ok err none number counted = subst (λ w. IsCounted w rows u) (sym err) counted

-- all came, and then memory was refused
pub longer_all : (t : ℕ) (z y x : Store) (ms : List MovedItem) → Each (λ (m : Item). MayMove t m.thing) (items_of ms) → x ≡ z ++ items_of ms → y ≡ x → IsLonger z y
longer_all t z y x ms may came same =
    longer_by t z y ms (length ms) may (same ∙ came ∙ ap (λ l. z ++ items_of l) (sym (take_all (length ms) ms (omega arith))))

-- ---- a thread that starts

module _ (z y : Store) (rows more : List Row) (u v t number place : ℕ) (id : Id) (thing : Thing) (counted : IsCounted z rows u)
    (is : thing ≡ Thread (record { number = number; maker = t; gathered = false; end = None })) (last : number ≡ length rows) (came : y ≡ z ++ record { id = id; thing = thing } ∷ []) where
  pub numbered : number ≡ suc (length (threads z))
  numbered = last ∙ rows_of z rows u counted

  pub started_thing : y ≡ z ++ new_thread z t id ∷ []
  started_thing =
      came ∙ ap (λ one. z ++ record { id = id; thing = one } ∷ [])
      (is ∙ ap (λ n. Thread (record { number = n; maker = t; gathered = false; end = None })) numbered)

  pub started_counted : place ≡ length z → more ≡ rows ++ row_of (generation_in rows t + 1) place ∷ [] → v ≡ u + 1 → IsCounted y more v
  started_counted at grown count =
      subst (λ w. IsCounted w more v) (sym started_thing)
      (subst (λ l. IsCounted (z ++ new_thread z t id ∷ []) l v) (sym (grown ∙ ap (λ p. rows ++ row_of (generation_in rows t + 1) p ∷ []) at))
      (subst (IsCounted (z ++ new_thread z t id ∷ []) (rows ++ row_of (generation_in rows t + 1) (length z) ∷ [])) (sym count) (counted_thread z rows u t id counted)))

-- the rows tell whether a thread may start another
pub full_is : (slots : ℕ) (z : Store) (rows : List Row) (u t : ℕ) → IsCounted z rows u → is_full_by slots rows u t ≡ is_full slots z t
full_is slots z rows u t counted =
    ap (λ n. nat_le (slots - 1) n || nat_le (slots - 1) (generation_in rows t)) counted.ungathered_are
    ∙ ap (λ l. nat_le (slots - 1) (ungathered_count z) || nat_le (slots - 1) (unwrap_or (slice_get l t) 0)) counted.generations_are

pub not_full : (slots : ℕ) (z y : Store) (rows : List Row) (u t : ℕ) → IsCounted z rows u → z ≡ y → is_full_by slots rows u t ≡ false → is_full slots y t ≡ false
not_full slots z y rows u t counted same none = sym (ap (λ w. is_full slots w t) same) ∙ sym (full_is slots z rows u t counted) ∙ none
