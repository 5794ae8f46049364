-- Few pairs in one row.
use Rattle.std.specs.Prelude.{◌≡◌, ◌≤◌, ◌||◌, ℕ, zero, suc, Bool, true, false, List, [], ◌∷◌, length, map, nat_lt}
use Rattle.std.specs.List.{IsDistinct}
use Rattle.rb_model.specs.Values.{Value as Val, same}
use Rattle.rb_model.specs.Things.{has_key, key_of}
use Rattle.ordered_pairs.specs.declared.few.TheConstants.{FEW}

-- no key stands twice, and there are few
abbrev pub AreFew : List (Val × Val) → Type 0
AreFew ps = IsDistinct same (map key_of ps) × (length ps ≤ FEW)

-- the first pair with a key stands at this place
abbrev pub StandsAt : Val → ℕ → List (Val × Val) → Type 0
StandsAt key place [] = ⊥
StandsAt key zero (p ∷ ps) = same p.0 key ≡ true
StandsAt key (suc place) (p ∷ ps) = (same p.0 key ≡ false) × StandsAt key place ps

-- a key is there, or one more pair may stand in the row
abbrev pub has_place : Val → List (Val × Val) → Bool
has_place key ps = nat_lt (length ps) FEW || has_key key ps
