-- The laws that make reading a word undo writing it.
use Rattle.std.specs.Prelude.{◌≡◌, ◌<◌, ◌^◌, ℤ, FitsSigned}
use Rattle.std.specs.Int.{w64}
use Rattle.typed_location.specs.declared.general_place.Any.{Any}
use Rattle.typed_location.specs.Word.{word_of, Fits, twos_complement}

-- no two values that fit have one word
abbrev pub HasOneWord : Type 0
HasOneWord = (v u : Any) → Fits v → Fits u → word_of v ≡ word_of u → v ≡ u

-- the word of a value that fits has 64 bits
abbrev pub HasRoom : Type 0
HasRoom = (v : Any) → Fits v → word_of v < 2 ^ 64

-- no two integers of 64 bits have one word
abbrev pub HasOneIntWord : Type 0
HasOneIntWord = (m n : ℤ) → FitsSigned w64 m → FitsSigned w64 n → twos_complement 64 m ≡ twos_complement 64 n → m ≡ n
