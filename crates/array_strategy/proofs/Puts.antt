-- What a put leaves, by where its place lies.
use Rattle.std.proofs.Common.{◌≡◌, ℕ, ◌<◌, ◌≤◌, ◌-◌, length, false, true, arith, refl, sym, ap, ◌∙◌}
use Rattle.std.specs.Prelude.{ℤ, Option, Some, IsSomeAnd, nat_lt}
use Rattle.std.proofs.lemmas.Bool.Decides.{nat_tests}
use Rattle.array_strategy.specs.Elements.{Elements, place_of, put_at, pushed}
use Rattle.array_strategy.specs.Storage.{replaced, filled}
use Rattle.array_strategy.proofs.Places.{with_item-within, with_item-end, with_item-beyond}

module _ {V : Type 0} (integer : V → Option ℤ) (old : Elements V) (j : ℕ) (v fill : V) where
  pub put_at-within : j < length old.items → put_at integer old j v fill ≡ replaced integer old j v
  put_at-within h =
      let unfilled : nat_lt (length old.items) j ≡ false = grind (arith, nat_tests) in
      rw (unfilled, with_item-within old.items j v fill h) refl

  pub put_at-end : j ≡ length old.items → put_at integer old j v fill ≡ pushed integer old v
  put_at-end h =
      let unfilled : nat_lt (length old.items) j ≡ false = grind (arith, nat_tests) in
      rw (unfilled, with_item-end old.items j v fill h) refl

  pub put_at-beyond : length old.items < j → put_at integer old j v fill ≡ filled integer old (j - length old.items) fill v
  put_at-beyond h =
      let is_filled : nat_lt (length old.items) j ≡ true = grind (arith, nat_tests) in
      let above : length old.items ≤ j = omega arith in
      rw (is_filled, with_item-beyond old.items j v fill above) refl

pub ruleset puts = (put_at-within, put_at-end, put_at-beyond)

-- the place within the list that an index names gets the item
pub put_done-within : {V : Type 0} (integer : V → Option ℤ) (old held new : Elements V) (index : ℤ) (len j : ℕ) (v fill : V) → held ≡ old → len ≡ length old.items → Some j ≡ place_of index len → j < len → new ≡ replaced integer held j v → IsSomeAnd (place_of index (length old.items)) (λ k. new ≡ put_at integer old k v fill)
put_done-within integer old held new index len j v fill is counts found within done =
    let within_old : j < length old.items = omega arith in
    let place : place_of index (length old.items) ≡ Some j = rw (← counts) (sym found) in
    rw place (done ∙ ap (λ (e : Elements _). replaced integer e j v) is ∙ sym (put_at-within integer old j v fill within_old))
