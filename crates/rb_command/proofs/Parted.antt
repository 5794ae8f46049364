-- A word without `=`.
use Rattle.std.proofs.Common.{◌≡◌, ◌+◌, suc, Bool, true, false, not, cond, [], ◌∷◌, length, None, refl, arith}
use Rattle.std.specs.Prelude.{◌||◌}
use Rattle.std.specs.List.{list_any, position_or_len}
use Rattle.rb_command.specs.Words.{Text, is_equals_sign, value_part}

-- the place of the first, where it is none of the word
no_sign : (word : Text) → position_or_len is_equals_sign word ≡ length word → list_any is_equals_sign word ≡ false
no_sign [] e = refl
no_sign (byte ∷ word) e = go (is_equals_sign byte) e (no_sign word)
  where
    go : (b : Bool) → cond (not b) (1 + position_or_len is_equals_sign word) 0 ≡ suc (length word)
        → (position_or_len is_equals_sign word ≡ length word → list_any is_equals_sign word ≡ false) → (b || list_any is_equals_sign word) ≡ false
    go true e rest = absurd (omega (arith, e))
    go false e rest = rest (omega (arith, e))

pub no_value : (word : Text) → position_or_len is_equals_sign word ≡ length word → None ≡ value_part word
no_value word e = rw (no_sign word e) refl
