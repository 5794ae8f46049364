-- The bytes in a word.
use Rattle.std.specs.Prelude.{ℕ, zero, suc, ◌/◌, ◌%◌, List, [], ◌∷◌}

-- so many bytes of a word, the lowest first
abbrev pub bytes_in : (count word : ℕ) → List ℕ
bytes_in zero word = []
bytes_in (suc count) word = word % 256 ∷ bytes_in count (word / 256)
