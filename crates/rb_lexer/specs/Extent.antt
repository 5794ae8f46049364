-- How far something reaches from the front of bytes.
use Rattle.std.specs.Prelude.{◌≡◌, ℕ, ◌≤◌, ◌<◌, Bool, false, not, ◌&&◌, ◌||◌, ◌==◌, List, [], ◌∷◌, ◌++◌, length, take, drop}
use Rattle.rb_lexer.specs.declared.token.Mark.{Mark}
use Rattle.rb_lexer.specs.Character.{is_digit, is_lower, begins_with, begins_with_digit}
use Rattle.rb_lexer.specs.Mark.{mark_text}

-- what a plain name begins with: a small letter or `_`
abbrev pub is_name_start : ℕ → Bool
is_name_start b = is_lower b || b == 95

-- whether digits reach over the first of these bytes: a digit, or a `_` before one
abbrev pub begins_digits : List ℕ → Bool
begins_digits [] = false
begins_digits (b ∷ bs) = is_digit b || (b == 95 && begins_with_digit bs)

-- whether a `?` or a `!` stands here that belongs to the name before it: no `=` follows it
abbrev pub begins_name_mark : List ℕ → Bool
begins_name_mark [] = false
begins_name_mark (b ∷ bs) = (b == 63 || b == 33) && not (begins_with 61 bs)

-- whether a `:` stands here that isn't the first of two
abbrev pub ends_label : List ℕ → Bool
ends_label [] = false
ends_label (b ∷ bs) = b == 58 && not (begins_with 58 bs)

-- The longest front of bytes that is such before what follows it has n bytes. Where n is 0 there may be none.
pub record LongestFront (P : (rest : List ℕ) → List ℕ → Type 0) (bytes : List ℕ) (n : ℕ) : Type 0 where
  pub within : n ≤ length bytes
  pub there : 0 < n → P (drop n bytes) (take n bytes)
  pub longest : (front rest : List ℕ) → front ++ rest ≡ bytes → P rest front → length front ≤ n

-- the longest mark at the front of bytes
pub record LongestMark (bytes : List ℕ) (m : Mark) : Type 0 where
  pub there : mark_text m ++ drop (length (mark_text m)) bytes ≡ bytes
  pub longest : (other : Mark) (rest : List ℕ) → mark_text other ++ rest ≡ bytes → length (mark_text other) ≤ length (mark_text m)
