-- The end of a thread: its mutexes are free, and its thing knows how.
use Rattle.std.proofs.Common.{◌≡◌, ℕ, zero, suc, ◌==◌, true, false, List, [], ◌∷◌, ◌++◌, map, Option, Some, None, refl, sym, ap, ◌∙◌, arith}
use Rattle.std.specs.Prelude.{not, if◌then◌else◌, slice_get}
use Rattle.std.proofs.lemmas.Bool.{ne_eqb}
use Rattle.rb_model.specs.Ends.{End as Ending}
use Rattle.rb_model.specs.Things.{Thing, ThreadState, Object, Elements, Pairs, Mutex, Thread}
use Rattle.rb_shared.specs.Store.{Store, thread_in, threads, ungathered_count}
use Rattle.rb_shared.specs.Step.{ended_thing, ended_item}
use Rattle.thing_store.specs.declared.threads.Row.{Row}
use Rattle.thing_store.specs.Counted.{freed_thing, freed_item, altered, with_end, with_end_in, number_in, numbers_in, places_of, IsCounted}
use Rattle.thing_store.proofs.Counting.{IsAlike, makers, makers-append, counts_append, ungathered_in, counted_same}

module _ (t : ℕ) (how : Ending) where
  -- the two steps are one
  both : (thing : Thing) → with_end t how (freed_thing t thing) ≡ ended_thing t how thing
  both (Object class fields) = refl
  both (Elements values) = refl
  both (Pairs pairs) = refl
  both (Mutex None) = refl
  both (Mutex (Some owner)) = refl
  both (Thread s) = refl

  -- a thing that is not this thread needs the first alone
  freed_alone : (thing : Thing) → (number_in thing ≡ Some t → ⊥) → freed_thing t thing ≡ ended_thing t how thing
  freed_alone (Object class fields) other = refl
  freed_alone (Elements values) other = refl
  freed_alone (Pairs pairs) other = refl
  freed_alone (Mutex None) other = refl
  freed_alone (Mutex (Some owner)) other = refl
  freed_alone (Thread s) other = sym (ap (λ b. Thread (if b then record s { end = Some how } else s)) (ne_eqb s.number t (λ e. other (ap Some e))))

  -- none of these is the thread
  none_ended : (z : Store) → ((i : ℕ) → slice_get (numbers_in z) i ≡ Some (Some t) → ⊥) → map (freed_item t) z ≡ map (ended_item t how) z
  none_ended [] other = refl
  none_ended (x ∷ xs) other =
      ap (λ thing. record { id = x.id; thing = thing } ∷ map (freed_item t) xs) (freed_alone x.thing (λ e. other 0 (ap Some e)))
      ∙ ap (λ l. ended_item t how x ∷ l) (none_ended xs (λ i e. other (suc i) e))

  -- the thread stands at this place, if anywhere
  one_ended : (z : Store) (place : ℕ) → ((i : ℕ) → slice_get (numbers_in z) i ≡ Some (Some t) → i ≡ place) → altered (with_end t how) (map (freed_item t) z) place ≡ map (ended_item t how) z
  one_ended [] place only = refl
  one_ended (x ∷ xs) zero only =
      ap (λ thing. record { id = x.id; thing = thing } ∷ map (freed_item t) xs) (both x.thing)
      ∙ ap (λ l. ended_item t how x ∷ l) (none_ended xs (λ i e. let same = only (suc i) e in absurd (omega (arith, same))))
  one_ended (x ∷ xs) (suc place) only =
      ap (λ thing. record { id = x.id; thing = thing } ∷ altered (with_end t how) (map (freed_item t) xs) place) (freed_alone x.thing (λ e. let same = only 0 (ap Some e) in absurd (omega (arith, same))))
      ∙ ap (λ l. ended_item t how x ∷ l) (one_ended xs place (λ i e. let same = only (suc i) e in omega (arith, same)))

  -- where the place of the thread is looked up among the rows
  pub ended_in : (z : Store) (rows : List Row) (u : ℕ) → IsCounted z rows u → (place : Option ℕ) → place ≡ slice_get (places_of rows) t → with_end_in t how (map (freed_item t) z) place ≡ map (ended_item t how) z
  ended_in z rows u counted None is = none_ended z (λ i e. let at = counted.places_are i t e in absurd (cc))
  ended_in z rows u counted (Some place) is = one_ended z place (λ i e. let at = counted.places_are i t e in cc)

  ended_alike : (thing : Thing) → IsAlike thing (ended_thing t how thing)
  ended_alike (Object class fields) = record { made = refl; numbered = refl }
  ended_alike (Elements values) = record { made = refl; numbered = refl }
  ended_alike (Pairs pairs) = record { made = refl; numbered = refl }
  ended_alike (Mutex None) = record { made = refl; numbered = refl }
  ended_alike (Mutex (Some owner)) = record { made = refl; numbered = refl }
  ended_alike (Thread s) = elim (s.number == t) as (λ b. IsAlike (Thread s) (Thread (if b then record s { end = Some how } else s))) [
    | true ↦ record { made = refl; numbered = refl }
    | false ↦ record { made = refl; numbered = refl }
  ]

  ended_ungathered : (thing : Thing) → ungathered_in (ended_thing t how thing) ≡ ungathered_in thing
  ended_ungathered (Object class fields) = refl
  ended_ungathered (Elements values) = refl
  ended_ungathered (Pairs pairs) = refl
  ended_ungathered (Mutex None) = refl
  ended_ungathered (Mutex (Some owner)) = refl
  ended_ungathered (Thread s) = elim (s.number == t) as (λ b. ungathered_in (Thread (if b then record s { end = Some how } else s)) ≡ ungathered_in (Thread s)) [
    | true ↦ refl
    | false ↦ refl
  ]

  ended_makers : (z : Store) → makers (threads (map (ended_item t how) z)) ≡ makers (threads z)
  ended_makers [] = refl
  ended_makers (x ∷ xs) =
      makers-append (thread_in (ended_thing t how x.thing)) (threads (map (ended_item t how) xs))
      ∙ ap (λ l. l ++ makers (threads (map (ended_item t how) xs))) (ended_alike x.thing).made
      ∙ ap (λ l. makers (thread_in x.thing) ++ l) (ended_makers xs)
      ∙ sym (makers-append (thread_in x.thing) (threads xs))

  ended_numbers : (z : Store) → numbers_in (map (ended_item t how) z) ≡ numbers_in z
  ended_numbers [] = refl
  ended_numbers (x ∷ xs) = ap (λ o. o ∷ numbers_in (map (ended_item t how) xs)) (ended_alike x.thing).numbered ∙ ap (λ l. number_in x.thing ∷ l) (ended_numbers xs)

  ended_count : (z : Store) → ungathered_count (map (ended_item t how) z) ≡ ungathered_count z
  ended_count [] = refl
  ended_count (x ∷ xs) =
      let new_sum = counts_append (λ (s : ThreadState). not s.gathered) (thread_in (ended_thing t how x.thing)) (threads (map (ended_item t how) xs)) in
      let old_sum = counts_append (λ (s : ThreadState). not s.gathered) (thread_in x.thing) (threads xs) in
      omega (arith, new_sum, old_sum, ended_ungathered x.thing, ended_count xs)

  -- the threads keep their makers, their numbers, and whether they were gathered
  pub counted_ended : (z : Store) (rows : List Row) (u : ℕ) → IsCounted z rows u → IsCounted (map (ended_item t how) z) rows u
  counted_ended z rows u counted =
      counted_same z (map (ended_item t how) z) rows u u (ended_makers z) (ended_numbers z) (counted.ungathered_are ∙ sym (ended_count z)) counted
