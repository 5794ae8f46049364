-- How far digits reach, and the number that they write as it grows.
use Rattle.std.proofs.Common.{◌≡◌, ℕ, suc, ◌+◌, ◌-◌, ◌*◌, ◌/◌, ◌<◌, ◌≤◌, Bool, true, false, cond, List, [], ◌∷◌, ◌++◌, length, get_or, take, drop, refl, ap, sym, ◌∙◌, subst, inl, inr, fold, arith}
use Rattle.std.specs.Prelude.{◌&&◌, ◌||◌, ◌==◌}
use Rattle.std.proofs.lemmas.List.{take-append-drop, drop_more, drop_all}
use Rattle.std.proofs.lemmas.List.Sums.{fold-append, fold_more}
use Rattle.std.proofs.lemmas.Bool.{cases_Bool, cases_lt, and_parts, or_left, or_right, and_from, false≢true, both_ways, eqb-true}
use Rattle.std.proofs.lemmas.Bool.Decides.{nat_tests}
use Rattle.rb_lexer.specs.Character.{is_digit, begins_with_digit}
use Rattle.rb_lexer.specs.Integer.{IsDigits, IsInteger, number_of}
use Rattle.rb_lexer.specs.Extent.{LongestFront, begins_digits}

-- how long the digits at the front are
pub digit_run : List ℕ → ℕ
digit_run [] = 0
digit_run (b ∷ bs) = cond (begins_digits (b ∷ bs)) (1 + digit_run bs) 0

pub run-yes : (b : ℕ) (bs : List ℕ) → begins_digits (b ∷ bs) ≡ true → digit_run (b ∷ bs) ≡ suc (digit_run bs)
unfolding digit_run
run-yes b bs h = let e : 1 + digit_run bs ≡ suc (digit_run bs) = omega arith in ap (λ t. cond t (1 + digit_run bs) 0) h ∙ e

run-no : (bytes : List ℕ) → begins_digits bytes ≡ false → digit_run bytes ≡ 0
unfolding digit_run
run-no [] h = refl
run-no (b ∷ bs) h = ap (λ t. cond t (1 + digit_run bs) 0) h

pub run-le : (bytes : List ℕ) → digit_run bytes ≤ length bytes
unfolding digit_run
run-le [] = omega arith
run-le (b ∷ bs) =
    let i = run-le bs in
    elim (cases_Bool (begins_digits (b ∷ bs))) [
      | inl h ↦ let e = run-yes b bs h in omega arith
      | inr h ↦ let e = run-no (b ∷ bs) h in omega arith
    ]

-- the run of the bytes from a place on, and of all of them
pub run-more : (bytes : List ℕ) (n : ℕ) → n ≤ length bytes → n + digit_run (drop n bytes) ≡ digit_run bytes → begins_digits (drop n bytes) ≡ true
    → (n + 1 ≤ length bytes) × (n + 1 + digit_run (drop (n + 1) bytes) ≡ digit_run bytes)
run-more bytes n w e h =
    elim (cases_lt n (length bytes)) [
      | inl l ↦
          let d = drop_more bytes n 0 l in
          let y = ap digit_run d ∙ run-yes (get_or bytes n 0) (drop (n + 1) bytes) (sym (ap begins_digits d) ∙ h) in
          (omega arith, omega arith)
      | inr l ↦ absurd (false≢true (sym (ap begins_digits (drop_all n bytes l)) ∙ h))
    ]

pub run-end : (bytes : List ℕ) (n : ℕ) → n + digit_run (drop n bytes) ≡ digit_run bytes → begins_digits (drop n bytes) ≡ false → n ≡ digit_run bytes
run-end bytes n e h = let z = run-no (drop n bytes) h in omega arith

digits-cons : (b : ℕ) (bs : List ℕ) → is_digit b ≡ true → IsDigits bs → IsDigits (b ∷ bs)
digits-cons b [] h d = h
digits-cons b (c ∷ bs) h d = inl (h, d)

begins-digit : (b : ℕ) (bs : List ℕ) → is_digit b ≡ true → begins_digits (b ∷ bs) ≡ true
begins-digit b bs h = or_left (is_digit b) (b == 95 && begins_with_digit bs) h

-- the run is digits
pub run-digits : (bytes : List ℕ) → IsDigits (take (digit_run bytes) bytes)
run-digits [] = subst (λ (n : ℕ). IsDigits (take n [])) (sym (run-no [] refl)) tt
run-digits (b ∷ []) =
    elim (cases_Bool (is_digit b)) [
      | inl h ↦ subst (λ (n : ℕ). IsDigits (take n (b ∷ []))) (sym (run-yes b [] (begins-digit b [] h) ∙ ap suc (run-no [] refl))) h
      | inr h ↦ subst (λ (n : ℕ). IsDigits (take n (b ∷ []))) (sym (run-no (b ∷ []) (ap (λ t. t || (b == 95 && false)) h ∙ and-false (b == 95)))) tt
    ]
  where
    and-false : (t : Bool) → (t && false) ≡ false
    and-false true = refl
    and-false false = refl
run-digits (b ∷ c ∷ bs) =
    elim (cases_Bool (is_digit b)) [
      | inl h ↦ subst (λ (n : ℕ). IsDigits (take n (b ∷ c ∷ bs))) (sym (run-yes b (c ∷ bs) (begins-digit b (c ∷ bs) h)))
          (digits-cons b (take (digit_run (c ∷ bs)) (c ∷ bs)) h (run-digits (c ∷ bs)))
      | inr h ↦ elim (cases_Bool (b == 95 && is_digit c)) [
        | inl u ↦
            let a = and_parts (b == 95) (is_digit c) u in
            let e : digit_run (b ∷ c ∷ bs) ≡ suc (suc (digit_run bs)) = run-yes b (c ∷ bs) (or_right (is_digit b) (b == 95 && is_digit c) u) ∙ ap suc (run-yes c bs (begins-digit c bs a.1)) in
            subst (λ (n : ℕ). IsDigits (take n (b ∷ c ∷ bs))) (sym e) (inr (eqb-true b 95 a.0, a.1, run-digits bs))
        | inr u ↦ subst (λ (n : ℕ). IsDigits (take n (b ∷ c ∷ bs))) (sym (run-no (b ∷ c ∷ bs) (ap (λ t. t || (b == 95 && is_digit c)) h ∙ u))) tt
      ]
    ]

underscore-begins : (b c : ℕ) (bs : List ℕ) → b ≡ 95 → is_digit c ≡ true → begins_digits (b ∷ c ∷ bs) ≡ true
underscore-begins b c bs e h = or_right (is_digit b) (b == 95 && is_digit c) (and_from (b == 95) (is_digit c) (ap (λ x. x == 95) e) h)

-- no digits at the front are longer
pub run-longest : (front rest : List ℕ) → IsDigits front → length front ≤ digit_run (front ++ rest)
run-longest [] rest h = omega arith
run-longest (b ∷ []) rest h = let e = run-yes b rest (begins-digit b rest h) in omega arith
run-longest (b ∷ c ∷ bs) rest h =
    elim h [
      | inl d ↦
          let i = run-longest (c ∷ bs) rest d.1 in
          let e = run-yes b (c ∷ bs ++ rest) (begins-digit b (c ∷ bs ++ rest) d.0) in
          omega arith
      | inr d ↦
          let i = run-longest bs rest d.2 in
          let e = run-yes b (c ∷ bs ++ rest) (underscore-begins b c (bs ++ rest) d.0 d.1) in
          let g = run-yes c (bs ++ rest) (begins-digit c (bs ++ rest) d.1) in
          omega arith
    ]

pub digits-reach : (bytes : List ℕ) (n : ℕ) → n ≡ digit_run bytes → LongestFront (λ rest. IsDigits) bytes n
digits-reach bytes n e =
    let w = run-le bytes in
    record {
      within = omega arith;
      there = λ _. subst (λ (m : ℕ). IsDigits (take m bytes)) (sym e) (run-digits bytes);
      longest = λ front rest f h. let l = run-longest front rest h in let s = ap digit_run f in omega arith;
    }

digit-zero : (b : ℕ) → b ≡ 48 → is_digit b ≡ true
digit-zero b e = grind (arith, nat_tests)

digit-other : (b : ℕ) → 49 ≤ b → b ≤ 57 → is_digit b ≡ true
digit-other b l h = grind (arith, nat_tests)

digit-range : (b : ℕ) → is_digit b ≡ true → (48 ≤ b) × (b ≤ 57)
digit-range b h = (grind (arith, nat_tests), grind (arith, nat_tests))

-- an integer begins with a digit
pub integer-first : (front rest : List ℕ) → IsInteger front → is_digit (get_or (front ++ rest) 0 0) ≡ true
integer-first [] rest h = absurd h
integer-first (b ∷ bs) rest h = elim h [ inl z ↦ digit-zero b z.0 | inr s ↦ digit-other b s.0 s.1 ]

digit-begins : (bytes : List ℕ) → begins_with_digit bytes ≡ true → is_digit (get_or bytes 0 0) ≡ true
digit-begins [] h = absurd (false≢true h)
digit-begins (b ∷ bs) h = h

begins-integer : (front rest : List ℕ) → IsInteger front → begins_with_digit (front ++ rest) ≡ true
begins-integer [] rest h = absurd h
begins-integer (b ∷ bs) rest h = integer-first (b ∷ bs) rest h

pub integer-none : (bytes : List ℕ) → begins_with_digit bytes ≡ false → LongestFront (λ rest. IsInteger) bytes 0
integer-none bytes n = record {
  within = omega arith;
  there = λ h. absurd (omega arith);
  longest = λ front rest f h. absurd (both_ways _ n (sym (ap begins_with_digit f) ∙ begins-integer front rest h));
}

-- `0` stands alone
zero-longest : (front rest bytes : List ℕ) → front ++ rest ≡ bytes → get_or bytes 0 0 ≡ 48 → IsInteger front → length front ≤ 1
zero-longest [] rest bytes f z h = absurd h
zero-longest (b ∷ bs) rest bytes f z h =
    let e : b ≡ get_or bytes 0 0 = ap (λ xs. get_or xs 0 0) f in
    elim h [ inl s ↦ let l = ap length s.1 in omega arith | inr s ↦ absurd (omega (arith, s.0)) ]

pub integer-zero : (bytes : List ℕ) → begins_with_digit bytes ≡ true → get_or bytes 0 0 ≡ 48 → LongestFront (λ rest. IsInteger) bytes 1
integer-zero [] d z = absurd (false≢true d)
integer-zero (b ∷ bs) d z = record {
  within = omega arith;
  there = λ _. inl (z, refl);
  longest = λ front rest f h. zero-longest front rest (b ∷ bs) f z h;
}

integer-longest : (front rest bs : List ℕ) (b n : ℕ) → front ++ rest ≡ b ∷ bs → LongestFront (λ rest. IsDigits) bs n → IsInteger front → length front ≤ 1 + n
integer-longest [] rest bs b n f l h = absurd h
integer-longest (c ∷ cs) rest bs b n f l h =
    let e : cs ++ rest ≡ bs = ap (drop 1) f in
    elim h [ inl s ↦ let z = ap length s.1 in omega arith | inr s ↦ let i = l.longest cs rest e s.2 in omega arith ]

digits-there : (bs : List ℕ) (n : ℕ) → LongestFront (λ rest. IsDigits) bs n → IsDigits (take n bs)
digits-there bs n l =
    elim (cases_lt 0 n) [
      | inl h ↦ l.there h
      | inr h ↦ let e : 0 ≡ n = omega arith in subst (λ (m : ℕ). IsDigits (take m bs)) e (none bs)
    ]
  where
    none : (bs : List ℕ) → IsDigits (take 0 bs)
    none [] = tt
    none (b ∷ bs) = tt

pub integer-reach : (bytes : List ℕ) (n : ℕ) → begins_with_digit bytes ≡ true → (get_or bytes 0 0 ≡ 48 → ⊥) → LongestFront (λ rest. IsDigits) (drop 1 bytes) n
    → LongestFront (λ rest. IsInteger) bytes (1 + n)
integer-reach [] n d z l = absurd (false≢true d)
integer-reach (b ∷ bs) n d z l =
    let r = digit-range b d in
    let w = l.within in
    let s : suc n ≡ 1 + n = omega arith in
    let low : 49 ≤ b = omega (arith, z) in
    let there : IsInteger (take (suc n) (b ∷ bs)) = inr (low, r.1, digits-there bs n l) in
    record {
      within = omega arith;
      there = λ _. subst (λ (m : ℕ). IsInteger (take m (b ∷ bs))) s there;
      longest = λ front rest f h. integer-longest front rest bs b n f l h;
    }

-- one more character of a number
abbrev grow : ℕ → ℕ → ℕ
grow n b = cond (b == 95) n (10 * n + (b - 48))

grow-once : (a x : ℕ) → a ≤ grow a x
grow-once a x = elim (cases_Bool (x == 95)) [
  | inl h ↦ let e = ap (λ t. cond t a (10 * a + (x - 48))) h in omega arith
  | inr h ↦ let e = ap (λ t. cond t a (10 * a + (x - 48))) h in omega arith
]

grow-le : (a : ℕ) (xs : List ℕ) → a ≤ fold grow a xs
grow-le a [] = omega arith
grow-le a (x ∷ xs) = let h = grow-le (grow a x) xs in let o = grow-once a x in omega arith

-- the first digits write no larger number than all of them
number_of-take : (xs : List ℕ) (i : ℕ) → number_of (take i xs) ≤ number_of xs
number_of-take xs i =
    let e : fold grow (number_of (take i xs)) (drop i xs) ≡ number_of xs
    = sym (fold-append grow 0 (take i xs) (drop i xs)) ∙ ap number_of (take-append-drop i xs) in
    let g = grow-le (number_of (take i xs)) (drop i xs) in
    omega arith

pub number_of-more : (xs : List ℕ) (i : ℕ) → i < length xs → (get_or xs i 0 ≡ 95 → ⊥) → number_of (take (i + 1) xs) ≡ 10 * number_of (take i xs) + (get_or xs i 0 - 48)
number_of-more xs i h n =
    fold_more grow 0 xs i 0 h ∙ elim (cases_Bool (get_or xs i 0 == 95)) [
      | inl e ↦ absurd (n (eqb-true (get_or xs i 0) 95 e))
      | inr e ↦ ap (λ t. cond t (number_of (take i xs)) (10 * number_of (take i xs) + (get_or xs i 0 - 48))) e
    ]

-- digits that no `i64` holds once one of them is read
pub number_of-large : (xs : List ℕ) (i value digit : ℕ) → i < length xs → (get_or xs i 0 ≡ 95 → ⊥) → value ≡ number_of (take i xs) → digit ≡ get_or xs i 0 - 48
    → digit ≤ 255 → (9223372036854775807 - digit) / 10 < value → 9223372036854775807 < number_of xs
number_of-large xs i value digit h n v d s large =
    let m = number_of-more xs i h n in
    let p = number_of-take xs (i + 1) in
    omega arith

-- a digit is an integer
pub digit-alone : (b : ℕ) → is_digit b ≡ true → IsInteger (b ∷ [])
digit-alone b h =
    let r = digit-range b h in
    elim (cases_lt 48 b) [ inl l ↦ inr (omega arith, r.1, tt) | inr l ↦ inl (omega (arith, r.0), refl) ]
