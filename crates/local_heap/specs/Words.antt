-- What the words of places stand for, as functions of the word.
use Rattle.std.specs.Prelude.{ℕ, suc, ◌-◌, ◌^◌, ◌/◌, ◌%◌, ◌==◌, nat_lt, if◌then◌else◌, ℤ, ◌+ℤ◌, pos, negsuc, Option, SomeIff, FitsSigned}
use Rattle.std.specs.Int.{cast_signed, w64}
use Rattle.typed_location.specs.declared.general_place.Any.{Any}
use Rattle.typed_location.specs.declared.general_place.Any.TheVariants.{Nil, False, True, Small, Sym, Text, Boxed, Thing}

-- the integer in a place for integers alone
abbrev pub integer_of : ℕ → ℤ
integer_of word = cast_signed w64 word

-- the sum of that integer and another, which is there exactly where it has 64 bits
abbrev pub IsSum : ℕ → ℤ → Option ℤ → Type 0
IsSum word n sum = SomeIff sum (FitsSigned w64 (integer_of word +ℤ n)) (integer_of word +ℤ n)

-- the integer with this two's complement of 61 bits
abbrev pub small_of : ℕ → ℤ
small_of payload = if nat_lt payload (2 ^ 60) then pos payload else negsuc (2 ^ 61 - suc payload)

-- nil or a truth value, by its payload
abbrev pub fixed_of : ℕ → Any
fixed_of payload = if payload == 0 then Nil else if payload == 1 then False else True

-- the value with a tag and a payload
abbrev pub payload_of : ℕ → ℕ → Any
payload_of tag payload =
    if tag == 0 then fixed_of payload
    else if tag == 1 then Small (small_of payload)
    else if tag == 2 then Sym payload
    else if tag == 3 then Text payload
    else if tag == 4 then Boxed payload
    else Thing payload

-- what the word of a value in a place for any value stands for
abbrev pub any_of : ℕ → Any
any_of word = payload_of (word % 8) (word / 8)
