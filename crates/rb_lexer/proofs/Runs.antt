-- How far names reach.
use Rattle.std.proofs.Common.{◌≡◌, ℕ, suc, ◌+◌, ◌<◌, ◌≤◌, Bool, true, false, cond, List, [], ◌∷◌, ◌++◌, length, length-append, get_or, take, drop, refl, ap, sym, ◌∙◌, subst, inl, inr, arith}
use Rattle.std.specs.Prelude.{◌||◌, ◌==◌, ◌⊎◌, max, not}
use Rattle.std.specs.List.{list_all, prefix_len}
use Rattle.std.proofs.lemmas.List.{append_assoc, drop_at, take_more, drop_more, drop_all}
use Rattle.std.proofs.lemmas.List.Sums.{prefix_len-le-length}
use Rattle.std.proofs.lemmas.Bool.{cases_Bool, cases_lt, and_parts, and_from, false≢true, both_ways, or_cases, eqb-true}
use Rattle.std.proofs.lemmas.Bool.Decides.{nat_tests}
use Rattle.rb_lexer.specs.Character.{is_upper, is_word_part, begins_with}
use Rattle.rb_lexer.specs.Word.{IsPlainName, IsIdentifier, plain, marked, IsConstant}
use Rattle.rb_lexer.specs.Extent.{LongestFront, is_name_start, begins_name_mark}

prefix-yes : (p : ℕ → Bool) (x : ℕ) (xs : List ℕ) → p x ≡ true → prefix_len p (x ∷ xs) ≡ suc (prefix_len p xs)
prefix-yes p x xs h = let e : 1 + prefix_len p xs ≡ suc (prefix_len p xs) = omega arith in ap (λ b. cond b (1 + prefix_len p xs) 0) h ∙ e

prefix-no : (p : ℕ → Bool) (x : ℕ) (xs : List ℕ) → p x ≡ false → prefix_len p (x ∷ xs) ≡ 0
prefix-no p x xs h = ap (λ b. cond b (1 + prefix_len p xs) 0) h

-- what the run holds passes
pub take-prefix : (p : ℕ → Bool) (xs : List ℕ) → list_all p (take (prefix_len p xs) xs) ≡ true
take-prefix p [] = refl
take-prefix p (x ∷ xs) =
    elim (cases_Bool (p x)) [
      | inl h ↦ ap (λ n. list_all p (take n (x ∷ xs))) (prefix-yes p x xs h) ∙ and_from (p x) (list_all p (take (prefix_len p xs) xs)) h (take-prefix p xs)
      | inr h ↦ ap (λ n. list_all p (take n (x ∷ xs))) (prefix-no p x xs h)
    ]

pub prefix-longest : (p : ℕ → Bool) (xs ys : List ℕ) → list_all p xs ≡ true → length xs ≤ prefix_len p (xs ++ ys)
prefix-longest p [] ys h = omega arith
prefix-longest p (x ∷ xs) ys h =
    let a = and_parts (p x) (list_all p xs) h in
    let i = prefix-longest p xs ys a.1 in
    let e = prefix-yes p x (xs ++ ys) a.0 in
    omega arith

-- a run ends where a character follows that does not pass
pub prefix-exact : (p : ℕ → Bool) (xs : List ℕ) (y : ℕ) (ys : List ℕ) → list_all p xs ≡ true → p y ≡ false → prefix_len p (xs ++ y ∷ ys) ≡ length xs
prefix-exact p [] y ys h n = prefix-no p y ys n
prefix-exact p (x ∷ xs) y ys h n =
    let a = and_parts (p x) (list_all p xs) h in
    let i = prefix-exact p xs y ys a.1 n in
    let e = prefix-yes p x (xs ++ y ∷ ys) a.0 in
    omega arith

pub word_part-from_start : (b : ℕ) → is_name_start b ≡ true → is_word_part b ≡ true
word_part-from_start b h = grind (arith, nat_tests)

pub word_part-from_upper : (b : ℕ) → is_upper b ≡ true → is_word_part b ≡ true
word_part-from_upper b h = grind (arith, nat_tests)

-- a first character that passes, and then letters, digits and `_`
abbrev pub IsWordFrom : (ℕ → Bool) → List ℕ → Type 0
IsWordFrom start [] = ⊥
IsWordFrom start (b ∷ bs) = (start b ≡ true) × (list_all is_word_part bs ≡ true)

pub word-parts : (start : ℕ → Bool) → ((b : ℕ) → start b ≡ true → is_word_part b ≡ true) → (name : List ℕ) → IsWordFrom start name → list_all is_word_part name ≡ true
word-parts start w [] h = absurd h
word-parts start w (b ∷ bs) h = and_from (is_word_part b) (list_all is_word_part bs) (w b h.0) h.1

word-first : (start : ℕ → Bool) (name rest : List ℕ) → IsWordFrom start name → start (get_or (name ++ rest) 0 0) ≡ true
word-first start [] rest h = absurd h
word-first start (b ∷ bs) rest h = h.0

word-of_run : (start : ℕ → Bool) → start 0 ≡ false → ((b : ℕ) → start b ≡ true → is_word_part b ≡ true) → (bytes : List ℕ) → start (get_or bytes 0 0) ≡ true
    → IsWordFrom start (take (prefix_len is_word_part bytes) bytes)
word-of_run start z w [] s = absurd (both_ways (start 0) z s)
word-of_run start z w (b ∷ bs) s =
    subst (λ (n : ℕ). IsWordFrom start (take n (b ∷ bs))) (sym (prefix-yes is_word_part b bs (w b s))) (s, take-prefix is_word_part bs)

word-longest : (start : ℕ → Bool) → ((b : ℕ) → start b ≡ true → is_word_part b ≡ true) → (bytes front rest : List ℕ) → front ++ rest ≡ bytes → IsWordFrom start front
    → length front ≤ prefix_len is_word_part bytes
word-longest start w bytes front rest e h =
    let i = prefix-longest is_word_part front rest (word-parts start w front h) in
    let s = ap (prefix_len is_word_part) e in
    omega arith

pub plain-word : (name : List ℕ) → IsPlainName name → IsWordFrom is_name_start name
plain-word [] h = h
plain-word (b ∷ bs) h = h

pub word-plain : (name : List ℕ) → IsWordFrom is_name_start name → IsPlainName name
word-plain [] h = h
word-plain (b ∷ bs) h = h

pub constant-word : (name : List ℕ) → IsConstant name → IsWordFrom is_upper name
constant-word [] h = h
constant-word (b ∷ bs) h = h

pub word-constant : (name : List ℕ) → IsWordFrom is_upper name → IsConstant name
word-constant [] h = h
word-constant (b ∷ bs) h = h

pub plain-first : (name rest : List ℕ) → IsPlainName name → is_name_start (get_or (name ++ rest) 0 0) ≡ true
plain-first name rest h = word-first is_name_start name rest (plain-word name h)

pub constant-first : (name rest : List ℕ) → IsConstant name → is_upper (get_or (name ++ rest) 0 0) ≡ true
constant-first name rest h = word-first is_upper name rest (constant-word name h)

pub identifier-first : {behind name : List ℕ} → IsIdentifier behind name → (rest : List ℕ) → is_name_start (get_or (name ++ rest) 0 0) ≡ true
identifier-first (plain {name = n} p) rest = plain-first n rest p
identifier-first (marked name mark p q r) rest =
    ap (λ xs. is_name_start (get_or xs 0 0)) (append_assoc name (mark ∷ []) rest) ∙ plain-first name (mark ∷ rest) p

pub plain-run : (bytes : List ℕ) → is_name_start (get_or bytes 0 0) ≡ true → IsPlainName (take (prefix_len is_word_part bytes) bytes)
plain-run bytes s = word-plain _ (word-of_run is_name_start refl word_part-from_start bytes s)

pub plain-reach : (bytes : List ℕ) (n : ℕ) → is_name_start (get_or bytes 0 0) ≡ true → n ≡ prefix_len is_word_part bytes → LongestFront (λ rest. IsPlainName) bytes n
plain-reach bytes n s e =
    let w = prefix_len-le-length is_word_part bytes in
    record {
      within = omega arith;
      there = λ _. subst (λ (m : ℕ). IsPlainName (take m bytes)) (sym e) (plain-run bytes s);
      longest = λ front rest f h. let l = word-longest is_name_start word_part-from_start bytes front rest f (plain-word front h) in omega arith;
    }

pub plain-none : (bytes : List ℕ) → is_name_start (get_or bytes 0 0) ≡ false → LongestFront (λ rest. IsPlainName) bytes 0
plain-none bytes s = record {
  within = omega arith;
  there = λ h. absurd (omega arith);
  longest = λ front rest f h. absurd (both_ways _ s (sym (ap (λ xs. is_name_start (get_or xs 0 0)) f) ∙ plain-first front rest h));
}

pub constant-reach : (bytes : List ℕ) (n : ℕ) → is_upper (get_or bytes 0 0) ≡ true → n ≡ prefix_len is_word_part bytes → LongestFront (λ rest. IsConstant) bytes n
constant-reach bytes n s e =
    let w = prefix_len-le-length is_word_part bytes in
    record {
      within = omega arith;
      there = λ _. subst (λ (m : ℕ). IsConstant (take m bytes)) (sym e) (word-constant _ (word-of_run is_upper refl word_part-from_upper bytes s));
      longest = λ front rest f h. let l = word-longest is_upper word_part-from_upper bytes front rest f (constant-word front h) in omega arith;
    }

pub constant-none : (bytes : List ℕ) → is_upper (get_or bytes 0 0) ≡ false → LongestFront (λ rest. IsConstant) bytes 0
constant-none bytes s = record {
  within = omega arith;
  there = λ h. absurd (omega arith);
  longest = λ front rest f h. absurd (both_ways _ s (sym (ap (λ xs. is_upper (get_or xs 0 0)) f) ∙ constant-first front rest h));
}

pub identifier-none : (bytes : List ℕ) → is_name_start (get_or bytes 0 0) ≡ false → LongestFront IsIdentifier bytes 0
identifier-none bytes s = record {
  within = omega arith;
  there = λ h. absurd (omega arith);
  longest = λ front rest f h. absurd (both_ways _ s (sym (ap (λ xs. is_name_start (get_or xs 0 0)) f) ∙ identifier-first h rest));
}

-- a `?` or `!` goes on no name
mark-no_part : (mark : ℕ) → (mark ≡ 63) ⊎ (mark ≡ 33) → is_word_part mark ≡ false
mark-no_part mark h = elim h [ inl e ↦ ap is_word_part e | inr e ↦ ap is_word_part e ]

mark-begins : (mark : ℕ) (rest : List ℕ) → (mark ≡ 63) ⊎ (mark ≡ 33) → begins_with 61 rest ≡ false → begins_name_mark (mark ∷ rest) ≡ true
mark-begins mark rest h n =
    let s : (b : ℕ) → mark ≡ b → begins_name_mark (b ∷ rest) ≡ begins_name_mark (mark ∷ rest) = λ b e. ap (λ x. begins_name_mark (x ∷ rest)) (sym e) in
    elim h [ inl e ↦ sym (s 63 e) ∙ ap not n | inr e ↦ sym (s 33 e) ∙ ap not n ]

-- an identifier is a run of its characters at most, or with the mark behind the run
pub identifier-len : (bytes : List ℕ) (n : ℕ) → n ≡ prefix_len is_word_part bytes → (front rest : List ℕ) → front ++ rest ≡ bytes → IsIdentifier rest front
    → (length front ≤ n) ⊎ ((length front ≡ n + 1) × (begins_name_mark (drop n bytes) ≡ true))
identifier-len bytes n e front rest f (plain p) =
    let l = word-longest is_name_start word_part-from_start bytes front rest f (plain-word front p) in inl (omega arith)
identifier-len bytes n e front rest f (marked name mark p q r) =
    let g : name ++ mark ∷ rest ≡ bytes = sym (append_assoc name (mark ∷ []) rest) ∙ f in
    let x = prefix-exact is_word_part name mark rest (word-parts is_name_start word_part-from_start name (plain-word name p)) (mark-no_part mark q) in
    let y = ap (prefix_len is_word_part) g in
    let same : length name ≡ n = omega arith in
    inr (
      omega (arith, length-append name (mark ∷ [])),
      ap begins_name_mark (sym (ap (drop n) g) ∙ drop_at name (mark ∷ rest) n same) ∙ mark-begins mark rest q r,
    )

begins-mark : (b : ℕ) (bs : List ℕ) → begins_name_mark (b ∷ bs) ≡ true → ((b ≡ 63) ⊎ (b ≡ 33)) × (begins_with 61 bs ≡ false)
begins-mark b bs h =
    let a = and_parts (b == 63 || b == 33) (not (begins_with 61 bs)) h in (
      elim (or_cases (b == 63) (b == 33) a.0) [ inl e ↦ inl (eqb-true b 63 e) | inr e ↦ inr (eqb-true b 33 e) ],
      elim (cases_Bool (begins_with 61 bs)) [ inl e ↦ absurd (false≢true (sym (ap not e) ∙ a.1)) | inr e ↦ e ],
    )

begins-mark_some : (bytes : List ℕ) → begins_name_mark bytes ≡ true → 0 < length bytes
begins-mark_some [] h = absurd (false≢true h)
begins-mark_some (b ∷ bs) h = omega arith

-- the run is the identifier where no mark of its own stands behind it
pub identifier-reach : (bytes : List ℕ) (n : ℕ) → is_name_start (get_or bytes 0 0) ≡ true → n ≡ prefix_len is_word_part bytes → begins_name_mark (drop n bytes) ≡ false
    → LongestFront IsIdentifier bytes n
identifier-reach bytes n s e m =
    let w = prefix_len-le-length is_word_part bytes in
    record {
      within = omega arith;
      there = λ _. plain (subst (λ (k : ℕ). IsPlainName (take k bytes)) (sym e) (plain-run bytes s));
      longest = λ front rest f h. elim (identifier-len bytes n e front rest f h) [ inl l ↦ l | inr l ↦ absurd (both_ways _ m l.1) ];
    }

pub identifier-reach_mark : (bytes : List ℕ) (n : ℕ) → is_name_start (get_or bytes 0 0) ≡ true → n ≡ prefix_len is_word_part bytes → begins_name_mark (drop n bytes) ≡ true
    → LongestFront IsIdentifier bytes (n + 1)
identifier-reach_mark bytes n s e m =
    let lt : n < length bytes = elim (cases_lt n (length bytes)) [ inl l ↦ l | inr l ↦ absurd (false≢true (sym (ap begins_name_mark (drop_all n bytes l)) ∙ m)) ] in
    let d = drop_more bytes n 0 lt in
    let b = begins-mark (get_or bytes n 0) (drop (n + 1) bytes) (sym (ap begins_name_mark d) ∙ m) in
    record {
      within = omega arith;
      there = λ _. subst (λ (name : List ℕ). IsIdentifier (drop (n + 1) bytes) name) (sym (take_more bytes n 0 lt))
          (marked (take n bytes) (get_or bytes n 0) (subst (λ (k : ℕ). IsPlainName (take k bytes)) (sym e) (plain-run bytes s)) b.0 b.1);
      longest = λ front rest f h. elim (identifier-len bytes n e front rest f h) [ inl l ↦ omega arith | inr l ↦ omega arith ];
    }

-- the longer of two is the longest that is either
pub max-reach : (P Q : (rest : List ℕ) → List ℕ → Type 0) (bytes : List ℕ) (m n : ℕ) → LongestFront P bytes m → LongestFront Q bytes n
    → LongestFront (λ rest front. P rest front ⊎ Q rest front) bytes (max m n)
max-reach P Q bytes m n p q =
    let v = p.within in
    let w = q.within in
    elim (cases_lt m n) [
      | inl l ↦ let e : n ≡ max m n = omega arith in subst (λ (k : ℕ). LongestFront (λ rest front. P rest front ⊎ Q rest front) bytes k) e (record {
        within = w;
        there = λ h. inr (q.there h);
        longest = λ front rest f h. elim h [ inl x ↦ let i = p.longest front rest f x in omega arith | inr x ↦ q.longest front rest f x ];
      })
      | inr l ↦ let e : m ≡ max m n = omega arith in subst (λ (k : ℕ). LongestFront (λ rest front. P rest front ⊎ Q rest front) bytes k) e (record {
        within = v;
        there = λ h. inl (p.there h);
        longest = λ front rest f h. elim h [ inl x ↦ p.longest front rest f x | inr x ↦ let i = q.longest front rest f x in omega arith ];
      })
    ]
