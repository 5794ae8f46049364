-- A general word gives its value back.
use Rattle.std.proofs.Common.{◌≡◌, ℕ, ◌<◌, ◌+◌, ◌*◌, ◌/◌, ◌%◌, refl, ap, sym, ◌∙◌, arith}
use Rattle.std.specs.Prelude.{ℤ, pos, negsuc, FitsSigned}
use Rattle.std.specs.Int.{w64, cast_signed, cast_unsigned}
use Rattle.std.proofs.lemmas.Int.{to_z-of_z}
use Rattle.typed_location.specs.declared.general_place.Any.{Any}
use Rattle.typed_location.specs.declared.general_place.Any.TheVariants.{Nil, False, True, Small, Sym, Text, Boxed, Thing}
use Rattle.typed_location.specs.Word.{word_of, Fits, IsSmall, twos_complement}
use Rattle.local_heap.specs.Words.{any_of, payload_of, small_of, integer_of}

payload_at : (tag payload : ℕ) → tag < 8 → any_of (payload * 8 + tag) ≡ payload_of tag payload
payload_at tag payload small =
    let t : (payload * 8 + tag) % 8 ≡ tag = omega arith in
    let p : (payload * 8 + tag) / 8 ≡ payload = omega arith in
    ap (λ n. payload_of n ((payload * 8 + tag) / 8)) t ∙ ap (payload_of tag) p

small_back : (n : ℤ) → IsSmall n → small_of (twos_complement 61 n) ≡ n
small_back (pos n) small = grind arith
small_back (negsuc n) small = grind arith

-- the value of its word is the value
pub any_of-word_of : (v : Any) → Fits v → any_of (word_of v) ≡ v
any_of-word_of Nil fits = refl
any_of-word_of False fits = refl
any_of-word_of True fits = refl
any_of-word_of (Small n) fits = payload_at 1 (twos_complement 61 n) (omega arith) ∙ ap Small (small_back n fits)
any_of-word_of (Sym number) fits = payload_at 2 number (omega arith)
any_of-word_of (Text at) fits = payload_at 3 at (omega arith)
any_of-word_of (Boxed at) fits = payload_at 4 at (omega arith)
any_of-word_of (Thing at) fits = payload_at 5 at (omega arith)

-- the integer of its word is the integer
pub integer_back : (n : ℤ) (word : ℕ) → FitsSigned w64 n → twos_complement 64 n ≡ word → integer_of word ≡ n
integer_back (pos n) word fits e = ap integer_of (sym e) ∙ to_z-of_z w64 (pos n) fits
integer_back (negsuc n) word fits e = ap integer_of (sym e) ∙ to_z-of_z w64 (negsuc n) fits

-- the same of a word that code made of it
pub integer_word : (n : ℤ) (word : ℕ) → FitsSigned w64 n → word ≡ twos_complement 64 (cast_signed w64 (cast_unsigned w64 n)) → integer_of word ≡ n
integer_word n word fits e = integer_back n word fits (ap (twos_complement 64) (sym (to_z-of_z w64 n fits)) ∙ sym e)
