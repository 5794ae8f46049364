-- What is counted of threads stays, or grows by one, with the store.
use Rattle.std.proofs.Common.{◌≡◌, ◌+◌, ◌<◌, ◌⊎◌, inl, inr, ℕ, zero, suc, ◌==◌, Bool, true, false, List, [], ◌∷◌, ◌++◌, length, map, take, drop, Option, Some, None, refl, sym, ap, ◌∙◌, subst, add-one, arith}
use Rattle.std.specs.Prelude.{not, ◌||◌, ◌&&◌, if◌then◌else◌, is_some, count_by, slice_get, unwrap_or}
use Rattle.std.proofs.lemmas.List.{append_assoc, append-nil, length-append, length-map, take-append-drop, map-append}
use Rattle.std.proofs.lemmas.List.Sums.{sum_by-append}
use Rattle.rb_model.specs.declared.value.Id.{Id}
use Rattle.std.proofs.lemmas.Option.{same_Some}
use Rattle.rb_model.specs.Values.{same_id}
use Rattle.rb_model.specs.Acts.{Act, SetField, Push, KDelete, Join, Lock}
use Rattle.rb_model.specs.Ends.{End as Ending}
use Rattle.rb_model.specs.Things.{Thing, ThreadState, Object, Elements, Pairs, Mutex, Thread}
use Rattle.rb_model.specs.Private.{Item}
use Rattle.rb_shared.specs.Store.{Store, found, with_thing, threads, thread_in, generations, ungathered_count}
use Rattle.rb_shared.specs.Step.{behind_act, with_act, joined_by, gathered_by, new_thread}
use Rattle.thing_store.specs.declared.threads.Row.{Row}
use Rattle.thing_store.specs.Counted.{gathers, number_in, numbers_in, generations_of, places_of, row_of, ArePlaced, IsCounted}

-- ---- lists

module _ {X : Type 0} where
  -- what stands in a list with one more at the end
  got_push : (xs : List X) (y : X) (i : ℕ) (z : X) → slice_get (xs ++ y ∷ []) i ≡ Some z → (slice_get xs i ≡ Some z) ⊎ ((i ≡ length xs) × (y ≡ z))
  got_push [] y zero z e = inr (refl, cc)
  got_push [] y (suc i) z e = absurd (cc)
  got_push (x ∷ xs) y zero z e = inl e
  got_push (x ∷ xs) y (suc i) z e = elim (got_push xs y i z e) [ inl h ↦ inl h | inr h ↦ inr (ap suc h.0, h.1) ]

  got_front : (xs ys : List X) (i : ℕ) (z : X) → slice_get xs i ≡ Some z → slice_get (xs ++ ys) i ≡ Some z
  got_front [] ys i z e = absurd (cc)
  got_front (x ∷ xs) ys zero z e = e
  got_front (x ∷ xs) ys (suc i) z e = got_front xs ys i z e

  got_last : (xs : List X) (y : X) → slice_get (xs ++ y ∷ []) (length xs) ≡ Some y
  got_last [] y = refl
  got_last (x ∷ xs) y = got_last xs y

  pub counts_append : (f : X → Bool) (xs ys : List X) → count_by f (xs ++ ys) ≡ count_by f xs + count_by f ys
  counts_append f xs ys = sum_by-append (λ x. if f x then 1 else 0) xs ys

-- ---- places

pub placed_more : (places : List ℕ) (numbers : List (Option ℕ)) → ArePlaced places numbers → ArePlaced places (numbers ++ None ∷ [])
placed_more places numbers placed i n e = elim (got_push numbers None i (Some n) e) [ inl h ↦ placed i n h | inr h ↦ absurd (cc) ]

pub placed_thread : (places : List ℕ) (numbers : List (Option ℕ)) → ArePlaced places numbers → ArePlaced (places ++ length numbers ∷ []) (numbers ++ Some (length places) ∷ [])
placed_thread places numbers placed i n e = elim (got_push numbers (Some (length places)) i (Some n) e) [
  | inl h ↦ got_front places (length numbers ∷ []) n i (placed i n h)
  | inr h ↦ (let same : length places ≡ n = cc in subst (λ m. slice_get (places ++ length numbers ∷ []) m ≡ Some i) same (got_last places (length numbers) ∙ ap Some (sym h.0)))
]

placed_front : (places : List ℕ) (numbers more : List (Option ℕ)) → ArePlaced places (numbers ++ more) → ArePlaced places numbers
placed_front places numbers more placed i n e = placed i n (got_front numbers more i (Some n) e)

-- ---- threads of more things

pub threads-append : (a b : Store) → threads (a ++ b) ≡ threads a ++ threads b
threads-append [] b = refl
threads-append (x ∷ xs) b = ap (λ l. thread_in x.thing ++ l) (threads-append xs b) ∙ sym (append_assoc (thread_in x.thing) (threads xs) (threads b))

generations-append : (known : List ℕ) (ss more : List ThreadState) → generations known (ss ++ more) ≡ generations (generations known ss) more
generations-append known [] more = refl
generations-append known (s ∷ ss) more = generations-append _ ss more

length-generations : (known : List ℕ) (ss : List ThreadState) → length (generations known ss) ≡ length known + length ss
length-generations known [] = omega arith
length-generations known (s ∷ ss) = length-generations _ ss ∙ (let more = length-append known (suc (unwrap_or (slice_get known s.maker) 0) ∷ []) in omega (arith, more))

-- there are as many rows as threads, and the main one
pub rows_of : (z : Store) (rows : List Row) (u : ℕ) → IsCounted z rows u → length rows ≡ suc (length (threads z))
rows_of z rows u counted =
    let of_rows = length-map rows (λ (r : Row). r.generation) in
    let of_threads = ap length counted.generations_are ∙ length-generations (0 ∷ []) (threads z) in
    omega (arith, of_rows, of_threads)

-- ---- one thing more

pub counted_thing : (z : Store) (rows : List Row) (u : ℕ) (x : Item) → thread_in x.thing ≡ [] → number_in x.thing ≡ None → IsCounted z rows u → IsCounted (z ++ x ∷ []) rows u
counted_thing z rows u x none number counted =
    let same : threads (z ++ x ∷ []) ≡ threads z = threads-append z (x ∷ []) ∙ ap (λ l. threads z ++ (l ++ [])) none ∙ append-nil (threads z) in
    record {
      generations_are = counted.generations_are ∙ ap (generations (0 ∷ [])) (sym same);
      ungathered_are = counted.ungathered_are ∙ ap (count_by (λ (s : ThreadState). not s.gathered)) (sym same);
      places_are = subst (ArePlaced (places_of rows)) (sym (map-append (λ (y : Item). number_in y.thing) z (x ∷ []) ∙ ap (λ o. numbers_in z ++ o ∷ []) number)) (placed_more (places_of rows) (numbers_in z) counted.places_are);
    }

-- fewer things, where no thread goes
pub counted_front : (a b : Store) (rows : List Row) (u : ℕ) → threads b ≡ [] → IsCounted (a ++ b) rows u → IsCounted a rows u
counted_front a b rows u none counted =
    let same : threads (a ++ b) ≡ threads a = threads-append a b ∙ ap (λ l. threads a ++ l) none ∙ append-nil (threads a) in
    record {
      generations_are = counted.generations_are ∙ ap (generations (0 ∷ [])) same;
      ungathered_are = counted.ungathered_are ∙ ap (count_by (λ (s : ThreadState). not s.gathered)) same;
      places_are = placed_front (places_of rows) (numbers_in a) (numbers_in b) (subst (ArePlaced (places_of rows)) (map-append (λ (y : Item). number_in y.thing) a b) counted.places_are);
    }

pub counted_take : (count : ℕ) (z : Store) (rows : List Row) (u : ℕ) → threads (drop count z) ≡ [] → IsCounted z rows u → IsCounted (take count z) rows u
counted_take count z rows u none counted = counted_front (take count z) (drop count z) rows u none (subst (λ y. IsCounted y rows u) (sym (take-append-drop count z)) counted)

-- one thread more
pub counted_thread : (z : Store) (rows : List Row) (u t : ℕ) (id : Id) → IsCounted z rows u
    → IsCounted (z ++ new_thread z t id ∷ []) (rows ++ row_of (unwrap_or (slice_get (generations_of rows) t) 0 + 1) (length z) ∷ []) (u + 1)
counted_thread z rows u t id counted =
    let s : ThreadState = record { number = suc (length (threads z)); maker = t; gathered = false; end = None } in
    let g = unwrap_or (slice_get (generations_of rows) t) 0 in
    let as_long : length (places_of rows) ≡ suc (length (threads z)) = length-map rows (λ (r : Row). r.place) ∙ rows_of z rows u counted in
    let so_far : length (numbers_in z) ≡ length z = length-map z (λ (y : Item). number_in y.thing) in
    let one = counts_append (λ (r : ThreadState). not r.gathered) (threads z) (s ∷ []) in
    record {
      generations_are =
          map-append (λ (r : Row). r.generation) rows (row_of (g + 1) (length z) ∷ [])
          ∙ ap (λ n. generations_of rows ++ n ∷ []) (add-one g)
          ∙ ap (λ l. l ++ suc (unwrap_or (slice_get l t) 0) ∷ []) counted.generations_are
          ∙ sym (generations-append (0 ∷ []) (threads z) (s ∷ []))
          ∙ ap (generations (0 ∷ [])) (sym (threads-append z (new_thread z t id ∷ [])));
      ungathered_are =
          ap (λ n. n + 1) counted.ungathered_are ∙ sym one
          ∙ ap (count_by (λ (r : ThreadState). not r.gathered)) (sym (threads-append z (new_thread z t id ∷ [])));
      places_are =
          subst (λ l. ArePlaced l (numbers_in (z ++ new_thread z t id ∷ []))) (sym (map-append (λ (r : Row). r.place) rows (row_of (g + 1) (length z) ∷ [])))
          (subst (ArePlaced (places_of rows ++ length z ∷ [])) (sym (map-append (λ (y : Item). number_in y.thing) z (new_thread z t id ∷ [])))
          (subst (λ n. ArePlaced (places_of rows ++ n ∷ []) (numbers_in z ++ Some (suc (length (threads z))) ∷ [])) so_far
          (subst (λ n. ArePlaced (places_of rows ++ length (numbers_in z) ∷ []) (numbers_in z ++ Some n ∷ [])) as_long
          (placed_thread (places_of rows) (numbers_in z) counted.places_are))));
    }

-- ---- other things with the same threads

abbrev pub makers : List ThreadState → List ℕ
makers ss = map (λ (s : ThreadState). s.maker) ss

abbrev generations_by : List ℕ → List ℕ → List ℕ
generations_by known [] = known
generations_by known (m ∷ ms) = generations_by (known ++ suc (unwrap_or (slice_get known m) 0) ∷ []) ms

by_makers : (known : List ℕ) (ss : List ThreadState) → generations known ss ≡ generations_by known (makers ss)
by_makers known [] = refl
by_makers known (s ∷ ss) = by_makers _ ss

pub counted_same : (z y : Store) (rows : List Row) (u v : ℕ) → makers (threads y) ≡ makers (threads z) → numbers_in y ≡ numbers_in z → v ≡ ungathered_count y → IsCounted z rows u → IsCounted y rows v
counted_same z y rows u v made numbers count counted = record {
  generations_are = counted.generations_are ∙ by_makers (0 ∷ []) (threads z) ∙ ap (generations_by (0 ∷ [])) (sym made) ∙ sym (by_makers (0 ∷ []) (threads y));
  ungathered_are = count;
  places_are = subst (ArePlaced (places_of rows)) (sym numbers) counted.places_are;
}

pub makers-append : (ss ts : List ThreadState) → makers (ss ++ ts) ≡ makers ss ++ makers ts
makers-append ss ts = map-append (λ (s : ThreadState). s.maker) ss ts

-- how many of a thing's threads were not gathered
abbrev pub ungathered_in : Thing → ℕ
ungathered_in thing = count_by (λ (s : ThreadState). not s.gathered) (thread_in thing)

-- a thing with the makers and the numbers of another
pub record IsAlike (a b : Thing) : Type 0 where
  pub made : makers (thread_in b) ≡ makers (thread_in a)
  pub numbered : number_in b ≡ number_in a

module _ (id : Id) (thing : Thing) where
  alike_makers : (z : Store) → ((old : Thing) → found z id ≡ Some old → IsAlike old thing) → makers (threads (with_thing z id thing)) ≡ makers (threads z)
  alike_makers [] is = refl
  alike_makers (x ∷ xs) is = (elim (same_id x.id id) as (λ b. same_id x.id id ≡ b → makers (threads (with_thing (x ∷ xs) id thing)) ≡ makers (threads (x ∷ xs))) [
    | true ↦ λ q. rw q (makers-append (thread_in thing) (threads xs) ∙ ap (λ l. l ++ makers (threads xs)) (is x.thing (rw q refl)).made ∙ sym (makers-append (thread_in x.thing) (threads xs)))
    | false ↦ λ q. rw q (makers-append (thread_in x.thing) (threads (with_thing xs id thing)) ∙ ap (λ l. makers (thread_in x.thing) ++ l) (alike_makers xs (λ old e. is old (rw q e))) ∙ sym (makers-append (thread_in x.thing) (threads xs)))
  ]) refl

  -- what does not change in the thing does not change in the store
  pub same_by : {Y : Type 0} (f : Thing → Y) (z : Store) → ((old : Thing) → found z id ≡ Some old → f thing ≡ f old) → map (λ (x : Item). f x.thing) (with_thing z id thing) ≡ map (λ (x : Item). f x.thing) z
  same_by f [] is = refl
  same_by f (x ∷ xs) is = (elim (same_id x.id id) as (λ b. same_id x.id id ≡ b → map (λ (y : Item). f y.thing) (with_thing (x ∷ xs) id thing) ≡ map (λ (y : Item). f y.thing) (x ∷ xs)) [
    | true ↦ λ q. rw q (ap (λ o. o ∷ map (λ (y : Item). f y.thing) xs) (is x.thing (rw q refl)))
    | false ↦ λ q. rw q (ap (λ l. f x.thing ∷ l) (same_by f xs (λ old e. is old (rw q e))))
  ]) refl

  fewer_ungathered : (z : Store) (old : Thing) (k : ℕ) → found z id ≡ Some old → ungathered_in thing + k ≡ ungathered_in old → ungathered_count (with_thing z id thing) + k ≡ ungathered_count z
  fewer_ungathered [] old k e less = absurd (cc)
  fewer_ungathered (x ∷ xs) old k e less = (elim (same_id x.id id) as (λ b. same_id x.id id ≡ b → ungathered_count (with_thing (x ∷ xs) id thing) + k ≡ ungathered_count (x ∷ xs)) [
    | true ↦ λ q. rw q (
        let is : x.thing ≡ old = same_Some x.thing old (rw q at e) in
        let old_sum = counts_append (λ (s : ThreadState). not s.gathered) (thread_in x.thing) (threads xs) in
        let new_sum = counts_append (λ (s : ThreadState). not s.gathered) (thread_in thing) (threads xs) in
        let here = ap ungathered_in is in
        omega (arith, old_sum, new_sum, here, less))
    | false ↦ λ q. rw q (
        let rest = fewer_ungathered xs old k (rw q at e) less in
        let old_sum = counts_append (λ (s : ThreadState). not s.gathered) (thread_in x.thing) (threads xs) in
        let new_sum = counts_append (λ (s : ThreadState). not s.gathered) (thread_in x.thing) (threads (with_thing xs id thing)) in
        omega (arith, old_sum, new_sum, rest))
  ]) refl

-- ---- acts

joined_alike : (t : ℕ) (s : ThreadState) (o : Option Ending) → IsAlike (Thread s) (Thread (joined_by t s o))
joined_alike t s None = record { made = refl; numbered = refl }
joined_alike t s (Some how) = elim (s.number == t) as (λ b. IsAlike (Thread s) (Thread (if b then s else gathered_by t s))) [
  | true ↦ record { made = refl; numbered = refl }
  | false ↦ record { made = refl; numbered = refl }
]

is_alike : (t : ℕ) (thing : Thing) (act : Act) → IsAlike thing (behind_act t thing act)
is_alike t (Object class fields) (SetField name v) = record { made = refl; numbered = refl }
is_alike t (Object class fields) act = record { made = refl; numbered = refl }
is_alike t (Elements values) (Push v) = record { made = refl; numbered = refl }
is_alike t (Elements values) act = record { made = refl; numbered = refl }
is_alike t (Pairs pairs) (KDelete k) = record { made = refl; numbered = refl }
is_alike t (Pairs pairs) act = record { made = refl; numbered = refl }
is_alike t (Mutex owner) Lock = record { made = refl; numbered = refl }
is_alike t (Mutex owner) act = record { made = refl; numbered = refl }
is_alike t (Thread s) Join = joined_alike t s s.end
is_alike t (Thread s) act = record { made = refl; numbered = refl }

-- one that is gathered is not counted any more
one_less : (g m : Bool) → (0 + (if not (g || m) then 1 else 0)) + (if (true && true) && m && not g then 1 else 0) ≡ 0 + (if not g then 1 else 0)
one_less true true = refl
one_less true false = refl
one_less false true = refl
one_less false false = refl

joined_less : (t : ℕ) (s : ThreadState) (o : Option Ending)
    → ungathered_in (Thread (joined_by t s o)) + (if is_some o && not (s.number == t) && s.maker == t && not s.gathered then 1 else 0) ≡ ungathered_in (Thread s)
joined_less t s None = omega arith
joined_less t s (Some how) = elim (s.number == t) as (λ b. ungathered_in (Thread (if b then s else gathered_by t s)) + (if true && not b && s.maker == t && not s.gathered then 1 else 0) ≡ ungathered_in (Thread s)) [
  | true ↦ omega arith
  | false ↦ one_less s.gathered (s.maker == t)
]

gathers_less : (t : ℕ) (thing : Thing) (act : Act) → ungathered_in (behind_act t thing act) + (if gathers t (Some thing) act then 1 else 0) ≡ ungathered_in thing
gathers_less t (Object class fields) (SetField name v) = refl
gathers_less t (Object class fields) act = refl
gathers_less t (Elements values) (Push v) = refl
gathers_less t (Elements values) act = refl
gathers_less t (Pairs pairs) (KDelete k) = refl
gathers_less t (Pairs pairs) act = refl
gathers_less t (Mutex owner) Lock = refl
gathers_less t (Mutex owner) act = refl
gathers_less t (Thread s) Join = joined_less t s s.end
gathers_less t (Thread s) act = omega arith

module _ (t : ℕ) (z : Store) (id : Id) (act : Act) (rows : List Row) (u : ℕ) (counted : IsCounted z rows u) where
  by_found : (o : Option Thing) (v : ℕ) → found z id ≡ o → v + (if gathers t o act then 1 else 0) ≡ u → IsCounted (with_act t z id o act) rows v
  by_found None v e less =
      let same : v ≡ u = omega (arith, less) in
      subst (IsCounted z rows) (sym same) counted
  by_found (Some thing) v e less =
      let now = behind_act t thing act in
      let alike : (old : Thing) → found z id ≡ Some old → IsAlike old now = λ old there. subst (λ one. IsAlike one now) (same_Some thing old (sym e ∙ there)) (is_alike t thing act) in
      let fewer = fewer_ungathered id now z thing (if gathers t (Some thing) act then 1 else 0) e (gathers_less t thing act) in
      let count : v ≡ ungathered_count (with_thing z id now) = omega (arith, less, fewer, counted.ungathered_are) in
      counted_same z (with_thing z id now) rows u v (alike_makers id now z alike) (same_by id now number_in z (λ old there. (alike old there).numbered)) count counted

  pub counted_act : (v : ℕ) → v + (if gathers t (found z id) act then 1 else 0) ≡ u → IsCounted (with_act t z id (found z id) act) rows v
  counted_act v less = by_found (found z id) v refl less

  one_by : (o : Option Thing) → found z id ≡ o → gathers t o act ≡ true → 0 < u
  one_by None e gathers_it = absurd (cc)
  one_by (Some thing) e gathers_it =
      let fewer = fewer_ungathered id (behind_act t thing act) z thing (if gathers t (Some thing) act then 1 else 0) e (gathers_less t thing act) in
      let one : ◌≡◌ {A = ℕ} (if gathers t (Some thing) act then 1 else 0) 1 = ap (λ b. if b then 1 else 0) gathers_it in
      omega (arith, fewer, one, counted.ungathered_are)

  -- where one is gathered, there is one
  pub gathers_one : gathers t (found z id) act ≡ true → 0 < u
  gathers_one gathers_it = one_by (found z id) refl gathers_it
