-- The words of typed locations, as in the object storage model: the raw bits of an integer, and tagged words for any value.
use Rattle.std.specs.Prelude.{ℕ, suc, ◌+◌, ◌-◌, ◌*◌, ◌^◌, ◌<◌, ℤ, pos, negsuc, ⊤}
use Rattle.typed_location.specs.declared.general_place.Any.{Any}
use Rattle.typed_location.specs.declared.general_place.Any.TheVariants.{Nil, False, True, Small, Sym, Text, Boxed, Thing}

-- an integer in two's complement of so many bits
abbrev pub twos_complement : ℕ → ℤ → ℕ
twos_complement bits (pos n) = n
twos_complement bits (negsuc n) = 2 ^ bits - suc n

-- a tag in the low three bits, and a payload above it
abbrev pub tagged : ℕ → ℕ → ℕ
tagged tag payload = payload * 8 + tag

-- the word of a value in a place that holds any value
abbrev pub word_of : Any → ℕ
word_of Nil = tagged 0 0
word_of False = tagged 0 1
word_of True = tagged 0 2
word_of (Small n) = tagged 1 (twos_complement 61 n)
word_of (Sym number) = tagged 2 number
word_of (Text address) = tagged 3 address
word_of (Boxed address) = tagged 4 address
word_of (Thing address) = tagged 5 address

-- an integer from -2^60 to 2^60 - 1
abbrev pub IsSmall : ℤ → Type 0
IsSmall (pos n) = n < 2 ^ 60
IsSmall (negsuc n) = n < 2 ^ 60

-- a value that a word has room for
abbrev pub Fits : Any → Type 0
Fits Nil = ⊤
Fits False = ⊤
Fits True = ⊤
Fits (Small n) = IsSmall n
Fits (Sym number) = number < 2 ^ 32
Fits (Text address) = address < 2 ^ 61
Fits (Boxed address) = address < 2 ^ 61
Fits (Thing address) = address < 2 ^ 61
