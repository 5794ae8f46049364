-- An item so many times, as a storage puts it there.
use Rattle.std.proofs.Common.{◌≡◌, ℕ, zero, suc, [], ◌∷◌, ◌++◌, replicate, true, refl, sym, ap, ◌∙◌}
use Rattle.std.specs.Prelude.{ℤ, Option, None, Some}
use Rattle.array_strategy.specs.Elements.{all_integers, empty, of_items, pushed, strategy_of, strategy_with}
use Rattle.array_strategy.specs.Storage.{filled}
use Rattle.array_strategy.specs.declared.storage.Strategy.TheVariants.{Empty}

-- the last one is an item like the others
replicate-last : {V : Type 0} (n : ℕ) (v : V) → replicate n v ++ v ∷ [] ≡ v ∷ replicate n v
replicate-last zero v = refl
replicate-last (suc n) v = ap (λ vs. v ∷ vs) (replicate-last n v)

module _ {V : Type 0} (integer : V → Option ℤ) where
  all_integers-repeated : (n : ℕ) (v : V) (z : ℤ) → integer v ≡ Some z → all_integers integer (replicate n v) ≡ true
  all_integers-repeated zero v z is = refl
  all_integers-repeated (suc n) v z is = rw is (all_integers-repeated n v z is)

  strategy-repeated : (n : ℕ) (v : V) (found : Option ℤ) → integer v ≡ found → strategy_of integer (v ∷ replicate n v) ≡ strategy_with Empty found
  strategy-repeated n v None is = rw is refl
  strategy-repeated n v (Some z) is = rw (is, all_integers-repeated n v z is) refl

  strategy-twice : (found : Option ℤ) → strategy_with (strategy_with Empty found) found ≡ strategy_with Empty found
  strategy-twice None = refl
  strategy-twice (Some z) = refl

  pub repeated-none : (count : ℕ) (v : V) → count ≡ 0 → of_items integer (replicate count v) ≡ empty
  repeated-none count v is = rw is refl

  pub repeated-one : (count : ℕ) (v : V) → count ≡ 1 → of_items integer (replicate count v) ≡ pushed integer empty v
  repeated-one count v is = rw is (ap (λ s. record { items = v ∷ []; strategy = s }) (strategy-repeated 0 v (integer v) refl))

  pub repeated-more : (count n : ℕ) (v : V) → count ≡ suc n → of_items integer (replicate count v) ≡ filled integer empty n v v
  repeated-more count n v is =
      rw (is, replicate-last n v) (ap (λ s. record { items = v ∷ replicate n v; strategy = s }) (strategy-repeated n v (integer v) refl ∙ sym (strategy-twice (integer v))))

pub ruleset repeats = (repeated-none, repeated-one, repeated-more)
