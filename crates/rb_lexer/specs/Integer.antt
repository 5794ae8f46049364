-- Integer literals.
use Rattle.std.specs.Prelude.{◌≡◌, ℕ, ◌+◌, ◌-◌, ◌*◌, ◌≤◌, ◌⊎◌, Bool, true, false, ◌==◌, if◌then◌else◌, List, [], ◌∷◌, fold}
use Rattle.rb_lexer.specs.Character.{is_digit, is_word_part, begins_with_digit}

-- digits, with single `_` between them
abbrev pub IsDigits : List ℕ → Type 0
IsDigits [] = Unit {0}
IsDigits (b ∷ []) = is_digit b ≡ true
IsDigits (b ∷ c ∷ bs) = ((is_digit b ≡ true) × IsDigits (c ∷ bs)) ⊎ ((b ≡ 95) × (is_digit c ≡ true) × IsDigits bs)

-- `0`, or a digit from 1 on and then digits
abbrev pub IsInteger : List ℕ → Type 0
IsInteger [] = ⊥
IsInteger (b ∷ bs) = ((b ≡ 48) × (bs ≡ [])) ⊎ ((49 ≤ b) × (b ≤ 57) × IsDigits bs)

-- the number that digits write
abbrev pub number_of : List ℕ → ℕ
number_of digits = fold (λ n b. if b == 95 then n else 10 * n + (b - 48)) 0 digits

-- the greatest integer that a literal may write
abbrev pub max_integer : ℕ
max_integer = 9223372036854775807

-- what may not stand directly behind an integer: a letter, a digit, `_`, or a `.` with a digit behind it
abbrev pub joins_integer : List ℕ → Bool
joins_integer [] = false
joins_integer (b ∷ bs) = if b == 46 then begins_with_digit bs else is_word_part b
