-- Words of digits.
use Rattle.std.proofs.Common.{ℕ, ◌≡◌, ◌≢◌, ◌<◌, ◌^◌, Bool, true, false, [], ◌∷◌, length, get_or, Some, None, refl, arith, sym, subst}
use Rattle.std.specs.Prelude.{◌&&◌, if◌then◌else◌, nat_le}
use Rattle.std.specs.List.{list_all}
use Rattle.std.specs.Char.{is_ascii_digit, digit_value}
use Rattle.std.specs.Str.Parse.{AllDigits, IsNumeral, digits_value, without_leading_plus}
use Rattle.std.proofs.lemmas.Str.Parse.{without_leading_plus_none}
use Rattle.std.proofs.lemmas.Bool.Decides.{nat_tests}
use Rattle.rb_command.specs.Words.{Text, is_numeral, number_in, within}

left : (a b : Bool) → (a && b) ≡ true → a ≡ true
left true b h = refl
left false b h = h

right : (a b : Bool) → (a && b) ≡ true → b ≡ true
right true b h = h
right false b h = cc

digit : (byte : ℕ) → is_ascii_digit byte ≡ true → digit_value byte < 10
digit byte h = grind (arith, nat_tests)

no_plus : (byte : ℕ) → is_ascii_digit byte ≡ true → byte ≢ 43
no_plus byte h e = grind (arith, nat_tests)

all_digits : (word : Text) → list_all is_ascii_digit word ≡ true → AllDigits 10 word
all_digits [] h = tt
all_digits (byte ∷ word) h = (digit byte (left (is_ascii_digit byte) (list_all is_ascii_digit word) h), all_digits word (right (is_ascii_digit byte) (list_all is_ascii_digit word) h))

first_digit : (word : Text) → list_all is_ascii_digit word ≡ true → get_or word 0 0 ≢ 43
first_digit [] h e = cc
first_digit (byte ∷ word) h e = no_plus byte (left (is_ascii_digit byte) (list_all is_ascii_digit word) h) e

some_digits : (word : Text) → nat_le 1 (length word) ≡ true → 0 < length word
some_digits word h = grind (arith, nat_tests)

above : (least most number : ℕ) → most < number → within least most number ≡ None
above least most number h =
    let too_large : nat_le number most ≡ false = grind (arith, nat_tests) in
    rw too_large (never (nat_le least number))
  where
    never : (b : Bool) → (if b && false then Some number else None) ≡ None
    never true = refl
    never false = refl

-- a number past `u64` is past every range
pub past_every_range : (least most : ℕ) (word : Text) → most < 2 ^ 64 → is_numeral word ≡ true
    → ¬ (IsNumeral 10 (without_leading_plus word) × (digits_value 10 (without_leading_plus word) < 2 ^ 64)) → None ≡ number_in least most word
past_every_range least most word bound numeral no_number =
    let some = left (nat_le 1 (length word)) (nat_le (length word) 19 && list_all is_ascii_digit word) numeral in
    let digits = right (nat_le (length word) 19) (list_all is_ascii_digit word)
    (right (nat_le 1 (length word)) (nat_le (length word) 19 && list_all is_ascii_digit word) numeral) in
    let plain : without_leading_plus word ≡ word = without_leading_plus_none word (first_digit word digits) in
    let past : ¬ (IsNumeral 10 word × (digits_value 10 word < 2 ^ 64)) =
    subst (λ (w : Text). ¬ (IsNumeral 10 w × (digits_value 10 w < 2 ^ 64))) plain no_number in
    let large : digits_value 10 word < 2 ^ 64 → ⊥ = λ below. past ((some_digits word some, all_digits word digits), below) in
    let over : most < digits_value 10 word = omega arith in
    rw numeral (sym (above least most (digits_value 10 word) over))
