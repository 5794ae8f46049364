-- Classes of characters, by their bytes.
use Rattle.std.specs.Prelude.{ℕ, Bool, false, ◌&&◌, ◌||◌, nat_le, ◌==◌, List, [], ◌∷◌}

-- `0` to `9`
abbrev pub is_digit : ℕ → Bool
is_digit b = nat_le 48 b && nat_le b 57

-- `a` to `z`
abbrev pub is_lower : ℕ → Bool
is_lower b = nat_le 97 b && nat_le b 122

-- `A` to `Z`
abbrev pub is_upper : ℕ → Bool
is_upper b = nat_le 65 b && nat_le b 90

-- what words go on with: a letter, a digit or `_`
abbrev pub is_word_part : ℕ → Bool
is_word_part b = is_lower b || is_upper b || is_digit b || b == 95

-- white space: space, tab and carriage return
abbrev pub is_blank : ℕ → Bool
is_blank b = b == 32 || b == 9 || b == 13

-- what ends a line: a line feed or `;`
abbrev pub is_line_end : ℕ → Bool
is_line_end b = b == 10 || b == 59

-- whether bytes begin with this one
abbrev pub begins_with : ℕ → List ℕ → Bool
begins_with c [] = false
begins_with c (b ∷ bs) = b == c

-- whether bytes begin with a digit
abbrev pub begins_with_digit : List ℕ → Bool
begins_with_digit [] = false
begins_with_digit (b ∷ bs) = is_digit b
