-- Bytes as the number of a word, and back.
use Rattle.std.proofs.Common.{◌≡◌, ◌<◌, ◌≤◌, ℕ, zero, suc, ◌+◌, ◌*◌, ◌-◌, ◌/◌, ◌%◌, ◌^◌, List, [], ◌∷◌, ◌++◌, length, take, drop, get_or, min, refl, sym, ap, ◌∙◌, append_assoc, append-nil, arith}
use Rattle.std.proofs.lemmas.List.{length-take, length-drop, drop-drop, take-append-drop}
use Rattle.std.proofs.Math.ListN.{drop_of_length-le}
use Rattle.std.proofs.Math.Nat.{min_comm}
use Rattle.heap_core.specs.Spelling.{byte_word, of_bytes}
use Rattle.block_kinds.specs.Built.{byte_words}
use Rattle.block_kinds.specs.Bytes.{bytes_in}
use Rattle.block_kinds.specs.Reading.{AreBytes}

positive : (n : ℕ) → 0 < 256 ^ n
positive zero = omega arith
positive (suc n) = let more = positive n in let step : 256 ^ suc n ≡ 256 ^ n * 256 = omega arith in omega (arith, more, step)

pub of_bytes_below : (bs : List ℕ) → AreBytes bs → (n : ℕ) → length bs ≤ n → of_bytes bs < 256 ^ n
of_bytes_below [] all n few = positive n
of_bytes_below (b ∷ bs) all zero few = absurd (omega (arith, few))
of_bytes_below (b ∷ bs) all (suc n) few =
    let first : b < 256 = all 0 in
    let more = of_bytes_below bs (λ i. all (suc i)) n (omega (arith, few)) in
    let step : 256 ^ suc n ≡ 256 ^ n * 256 = omega arith in
    omega (arith, first, more, step)

-- the bytes of a word are those that it was made of
pub bytes_in_of : (bs : List ℕ) → AreBytes bs → bytes_in (length bs) (of_bytes bs) ≡ bs
bytes_in_of [] all = refl
bytes_in_of (b ∷ bs) all =
    let first : b < 256 = all 0 in
    let low : (b + 256 * of_bytes bs) % 256 ≡ b = omega (arith, first) in
    let high : (b + 256 * of_bytes bs) / 256 ≡ of_bytes bs = omega (arith, first) in
    ap (λ x. x ∷ bytes_in (length bs) ((b + 256 * of_bytes bs) / 256)) low
    ∙ (ap (λ x. b ∷ bytes_in (length bs) x) high ∙ ap (λ l. b ∷ l) (bytes_in_of bs (λ i. all (suc i))))

pub bytes_take : (n : ℕ) (bs : List ℕ) → AreBytes bs → AreBytes (take n bs)
bytes_take zero bs all i = omega arith
bytes_take (suc n) [] all i = omega arith
bytes_take (suc n) (b ∷ bs) all zero = all 0
bytes_take (suc n) (b ∷ bs) all (suc i) = bytes_take n bs (λ i. all (suc i)) i

pub bytes_drop : (n : ℕ) (bs : List ℕ) → AreBytes bs → AreBytes (drop n bs)
bytes_drop zero bs all i = all i
bytes_drop (suc n) [] all i = omega arith
bytes_drop (suc n) (b ∷ bs) all i = bytes_drop n bs (λ i. all (suc i)) i

pub length_byte_words : (n k : ℕ) (bytes : List ℕ) → length (byte_words n k bytes) ≡ n
length_byte_words zero k bytes = refl
length_byte_words (suc n) k bytes = ap suc (length_byte_words n (suc k) bytes)

pub byte_words_at : (n k i : ℕ) (bytes : List ℕ) → i < n → get_or (byte_words n k bytes) i 0 ≡ byte_word bytes (k + i)
byte_words_at zero k i bytes lt = absurd (omega (arith, lt))
byte_words_at (suc n) k zero bytes lt = ap (byte_word bytes) (let z : k ≡ k + zero = omega arith in z)
byte_words_at (suc n) k (suc i) bytes lt = byte_words_at n (suc k) i bytes (omega (arith, lt)) ∙ ap (byte_word bytes) (let z : suc k + i ≡ k + suc i = omega arith in z)

-- a number of bytes divided by eight, rounded up
pub ceil_eight : (n : ℕ) → n / 8 + min 1 (n % 8) ≡ (n + 7) / 8
ceil_eight n = by_rest (n % 8) refl
  where
    by_rest : (r : ℕ) → n % 8 ≡ r → n / 8 + min 1 r ≡ (n + 7) / 8
    by_rest zero is = omega (arith, is)
    by_rest (suc r) is = omega (arith, is)

-- ---- a text is read, eight bytes a word

-- one word more
pub read_step : (out bytes : List ℕ) (k count number : ℕ) → AreBytes bytes → out ++ drop (8 * k) bytes ≡ bytes → number ≡ byte_word bytes k → count ≡ min (length bytes - 8 * k) 8
    → (out ++ bytes_in count number) ++ drop (8 * (k + 1)) bytes ≡ bytes
read_step out bytes k count number all was is some =
    let rest : List ℕ = drop (8 * k) bytes in
    let eight : List ℕ = take 8 rest in
    let long : length eight ≡ count = length-take 8 rest ∙ (ap (min 8) (length-drop (8 * k) bytes) ∙ (least 8 (length bytes - 8 * k) ∙ sym some)) in
    let found : bytes_in count number ≡ eight = ap (bytes_in count) is ∙ (ap (λ n. bytes_in n (of_bytes eight)) (sym long) ∙ bytes_in_of eight (bytes_take 8 rest (bytes_drop (8 * k) bytes all))) in
    let behind : drop (8 * (k + 1)) bytes ≡ drop 8 rest = ap (λ n. drop n bytes) (let z : 8 * (k + 1) ≡ 8 * k + 8 = omega arith in z) ∙ sym (drop-drop 8 (8 * k) bytes) in
    ap (λ l. (out ++ l) ++ drop (8 * (k + 1)) bytes) found
    ∙ (append_assoc out eight (drop (8 * (k + 1)) bytes)
    ∙ (ap (λ l. out ++ (eight ++ l)) behind ∙ (ap (λ l. out ++ l) (take-append-drop 8 rest) ∙ was)))
  where
    least : (m n : ℕ) → min m n ≡ min n m
    least m n = min_comm m n

-- until all are read
pub read_all : (out bytes : List ℕ) (k : ℕ) → out ++ drop (8 * k) bytes ≡ bytes → (length bytes + 7) / 8 ≤ k → out ≡ bytes
read_all out bytes k was far =
    let none : drop (8 * k) bytes ≡ [] = drop_of_length-le bytes (omega (arith, far)) in
    sym (append-nil out) ∙ (ap (λ l. out ++ l) (sym none) ∙ was)

-- the first eight bytes of what is left
pub eight_left : (bytes : List ℕ) (k n : ℕ) → n ≡ min (length (drop (8 * k) bytes)) 8 → take n (drop (8 * k) bytes) ≡ take 8 (drop (8 * k) bytes)
eight_left bytes k n is = ap (λ m. take m (drop (8 * k) bytes)) is ∙ short (drop (8 * k) bytes) 8
  where
    short : (xs : List ℕ) (m : ℕ) → take (min (length xs) m) xs ≡ take m xs
    short xs zero = ap (λ n. take n xs) (let z : min (length xs) 0 ≡ 0 = omega arith in z)
    short [] (suc m) = ap (λ n. take n []) (let z : min 0 (suc m) ≡ 0 = omega arith in z)
    short (x ∷ xs) (suc m) = ap (λ n. take n (x ∷ xs)) (let z : min (suc (length xs)) (suc m) ≡ suc (min (length xs) m) = omega arith in z) ∙ ap (λ l. x ∷ l) (short xs m)

-- a byte is appended, and those behind it are left
pub append_step : (out out' all : List ℕ) (count i left : ℕ) → i < count → out ++ bytes_in (count - i) left ≡ all → out' ≡ out ++ left % 256 ∷ [] → out' ++ bytes_in (count - (i + 1)) (left / 256) ≡ all
append_step out out' all count i left lt was is =
    let more : count - i ≡ suc (count - (i + 1)) = omega (arith, lt) in
    ap (λ l. l ++ bytes_in (count - (i + 1)) (left / 256)) is
    ∙ (append_assoc out (left % 256 ∷ []) (bytes_in (count - (i + 1)) (left / 256)) ∙ (sym (ap (λ n. out ++ bytes_in n left) more) ∙ was))

pub append_done : (out all : List ℕ) (count i left : ℕ) → count ≤ i → out ++ bytes_in (count - i) left ≡ all → out ≡ all
append_done out all count i left far was =
    let none : count - i ≡ 0 = omega (arith, far) in
    sym (append-nil out) ∙ (sym (ap (λ n. out ++ bytes_in n left) none) ∙ was)
