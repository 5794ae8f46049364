-- The characters of a text in UTF-8.
use Rattle.std.specs.Prelude.{ℕ, Bool, nat_lt, nat_le, ◌&&◌, not, List}
use Rattle.std.specs.List.{count_by}

-- whether a byte stands inside a character, behind its first byte
abbrev pub is_inside : ℕ → Bool
is_inside byte = nat_le 128 byte && nat_lt byte 192

-- how many characters a text has: each has one byte that begins it
abbrev pub characters : List ℕ → ℕ
characters bytes = count_by (λ byte. not (is_inside byte)) bytes
