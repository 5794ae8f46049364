-- The tables of keywords and marks: each stands in its table, and the longest mark that fits is the first.
use Rattle.std.proofs.Common.{◌≡◌, ℕ, zero, suc, ◌+◌, ◌<◌, ◌≤◌, Bool, true, false, List, [], ◌∷◌, ◌++◌, length, get_or, take, drop, refl, ap, sym, ◌∙◌, inl, inr, leb, arith}
use Rattle.std.specs.Prelude.{◌&&◌, ◌||◌}
use Rattle.std.specs.List.{list_all, list_any}
use Rattle.std.specs.Str.{bytes_eq}
use Rattle.std.proofs.lemmas.List.{take_at, take-append-drop, take_all}
use Rattle.std.proofs.lemmas.List.Folds.{list_any_more}
use Rattle.std.proofs.lemmas.Bool.{both_ways, or_parts, or_cases, or_from, and_parts, leb-true}
use Rattle.std.proofs.lemmas.Slice.Eq.{bytes_eq-Decides}
use Rattle.rb_lexer.specs.declared.token.Keyword.{Keyword}
use Rattle.rb_lexer.specs.declared.token.Keyword.TheVariants as word
use Rattle.rb_lexer.specs.declared.token.Mark.{Mark}
use Rattle.rb_lexer.specs.declared.token.Mark.TheVariants as mark
use Rattle.rb_lexer.specs.declared.keywords.TheConstants.{KEYWORDS}
use Rattle.rb_lexer.specs.declared.marks.TheConstants.{MARKS}
use Rattle.rb_lexer.specs.Word.{keyword_text}
use Rattle.rb_lexer.specs.Mark.{mark_text}
use Rattle.rb_lexer.specs.Extent.{LongestMark}

none-more : {A : Type 0} (p : A → Bool) (xs : List A) (i : ℕ) (d : A) → i < length xs → list_any p (take i xs) ≡ false → p (get_or xs i d) ≡ false → list_any p (take (i + 1) xs) ≡ false
none-more p xs i d h n f = list_any_more p xs i d h ∙ or_from (list_any p (take i xs)) (p (get_or xs i d)) n f

none-all : {A : Type 0} (p : A → Bool) (xs : List A) (i : ℕ) → length xs ≤ i → list_any p (take i xs) ≡ false → list_any p xs ≡ false
none-all p xs i h n = sym (ap (list_any p) (take_all i xs h)) ∙ n

-- whether this keyword is written so
abbrev pub is_written : List ℕ → Keyword → Bool
is_written text w = bytes_eq (keyword_text w) text

-- each keyword stands in the table
keyword-listed : (w : Keyword) → list_any (is_written (keyword_text w)) KEYWORDS ≡ true
keyword-listed word.Class = refl
keyword-listed w = refl

pub keywords-more : (text written : List ℕ) (i : ℕ) (same : Bool) → i < 36 → list_any (is_written text) (take i KEYWORDS) ≡ false → written ≡ keyword_text (get_or KEYWORDS i word.Class)
    → same ≡ bytes_eq written text → same ≡ false → list_any (is_written text) (take (i + 1) KEYWORDS) ≡ false
keywords-more text written i same h n e s f = none-more (is_written text) KEYWORDS i word.Class h n (ap (λ xs. bytes_eq xs text) (sym e) ∙ sym s ∙ f)

pub keywords-none : (text : List ℕ) (i : ℕ) → 36 ≤ i → list_any (is_written text) (take i KEYWORDS) ≡ false → (w : Keyword) → text ≡ keyword_text w → ⊥
keywords-none text i h n w e =
    both_ways (list_any (is_written text) KEYWORDS) (none-all (is_written text) KEYWORDS i h n) (ap (λ xs. list_any (is_written xs) KEYWORDS) e ∙ keyword-listed w)

-- whether this mark stands at the front of bytes
abbrev pub stands : List ℕ → Mark → Bool
stands bytes m = bytes_eq (mark_text m) (take (length (mark_text m)) bytes)

abbrev same : Mark → Mark → Bool
same m n = bytes_eq (mark_text m) (mark_text n)

-- each mark stands in the table
mark-listed : (m : Mark) → list_any (same m) MARKS ≡ true
mark-listed mark.Comma = refl
mark-listed m = refl

stands-from : (bytes : List ℕ) (m : Mark) (rest : List ℕ) → mark_text m ++ rest ≡ bytes → stands bytes m ≡ true
stands-from bytes m rest e =
    (bytes_eq-Decides (mark_text m) (take (length (mark_text m)) bytes)).1
    (sym (take_at (mark_text m) rest (length (mark_text m)) refl) ∙ ap (take (length (mark_text m))) e)

stands-split : (bytes : List ℕ) (m : Mark) → stands bytes m ≡ true → mark_text m ++ drop (length (mark_text m)) bytes ≡ bytes
stands-split bytes m h =
    let e : mark_text m ≡ take (length (mark_text m)) bytes = (bytes_eq-Decides (mark_text m) (take (length (mark_text m)) bytes)).0 h in
    ap (λ xs. xs ++ drop (length (mark_text m)) bytes) e ∙ take-append-drop (length (mark_text m)) bytes

same-text : (m n : Mark) → same m n ≡ true → mark_text m ≡ mark_text n
same-text m n h = (bytes_eq-Decides (mark_text m) (mark_text n)).0 h

same-stands : (bytes : List ℕ) (m n : Mark) → same m n ≡ true → stands bytes m ≡ stands bytes n
same-stands bytes m n h = ap (λ xs. bytes_eq xs (take (length xs) bytes)) (same-text m n h)

-- what stands in the table is found
listed-stands : (bytes : List ℕ) (m : Mark) (ms : List Mark) → list_any (same m) ms ≡ true → stands bytes m ≡ true → list_any (stands bytes) ms ≡ true
listed-stands bytes m [] l s = l
listed-stands bytes m (x ∷ xs) l s =
    elim (or_cases (same m x) (list_any (same m) xs) l) [
      | inl h ↦ ap (λ b. b || list_any (stands bytes) xs) (sym (same-stands bytes m x h) ∙ s)
      | inr h ↦ or-true (stands bytes x) (listed-stands bytes m xs h s)
    ]
  where
    or-true : (a : Bool) {b : Bool} → b ≡ true → (a || b) ≡ true
    or-true true h = refl
    or-true false h = h

abbrev no_longer : Mark → Mark → Bool
no_longer than m = leb (length (mark_text m)) (length (mark_text than))

-- whether no mark is longer than one before it
abbrev descends : List Mark → Bool
descends [] = true
descends (m ∷ ms) = list_all (no_longer m) ms && descends ms

listed-all : (than m : Mark) (ms : List Mark) → list_any (same m) ms ≡ true → list_all (no_longer than) ms ≡ true → length (mark_text m) ≤ length (mark_text than)
listed-all than m [] l a = absurd (both_ways false refl l)
listed-all than m (x ∷ xs) l a =
    let p = and_parts (no_longer than x) (list_all (no_longer than) xs) a in
    elim (or_cases (same m x) (list_any (same m) xs) l) [
      | inl h ↦ let e = ap length (same-text m x h) in let b = leb-true (length (mark_text x)) (length (mark_text than)) p.0 in omega arith
      | inr h ↦ listed-all than m xs h p.1
    ]

-- the first mark that stands is the longest
first-longest : (bytes : List ℕ) (ms : List Mark) (i : ℕ) (d : Mark) → descends ms ≡ true → i < length ms → list_any (stands bytes) (take i ms) ≡ false
    → (m : Mark) → list_any (same m) ms ≡ true → stands bytes m ≡ true → length (mark_text m) ≤ length (mark_text (get_or ms i d))
first-longest bytes [] i d o h n m l s = absurd (omega arith)
first-longest bytes (x ∷ xs) zero d o h n m l s =
    elim (or_cases (same m x) (list_any (same m) xs) l) [
      | inl t ↦ let e = ap length (same-text m x t) in omega arith
      | inr t ↦ listed-all x m xs t (and_parts (list_all (no_longer x) xs) (descends xs) o).0
    ]
first-longest bytes (x ∷ xs) (suc i) d o h n m l s =
    let p = or_parts (stands bytes x) (list_any (stands bytes) (take i xs)) n in
    elim (or_cases (same m x) (list_any (same m) xs) l) [
      | inl t ↦ absurd (both_ways (stands bytes x) p.0 (sym (same-stands bytes m x t) ∙ s))
      | inr t ↦ first-longest bytes xs i d (and_parts (list_all (no_longer x) xs) (descends xs) o).1 (omega arith) p.1 m t s
    ]

abbrev begins : List ℕ → List ℕ → Bool
begins bytes written = bytes_eq written (take (length written) bytes)

pub marks-more : (bytes written : List ℕ) (i : ℕ) (found : Bool) → i < 35 → list_any (stands bytes) (take i MARKS) ≡ false → written ≡ mark_text (get_or MARKS i mark.Comma)
    → found ≡ begins bytes written → found ≡ false → list_any (stands bytes) (take (i + 1) MARKS) ≡ false
marks-more bytes written i found h n e s f = none-more (stands bytes) MARKS i mark.Comma h n (ap (begins bytes) (sym e) ∙ sym s ∙ f)

pub marks-none : (bytes : List ℕ) (i : ℕ) → 35 ≤ i → list_any (stands bytes) (take i MARKS) ≡ false → (m : Mark) (rest : List ℕ) → mark_text m ++ rest ≡ bytes → ⊥
marks-none bytes i h n m rest e =
    both_ways (list_any (stands bytes) MARKS) (none-all (stands bytes) MARKS i h n) (listed-stands bytes m MARKS (mark-listed m) (stands-from bytes m rest e))

pub marks-found : (bytes written : List ℕ) (i : ℕ) (found : Bool) → i < 35 → list_any (stands bytes) (take i MARKS) ≡ false → written ≡ mark_text (get_or MARKS i mark.Comma)
    → found ≡ begins bytes written → found ≡ true → LongestMark bytes (get_or MARKS i mark.Comma)
marks-found bytes written i found h n e s f = record {
  there = stands-split bytes (get_or MARKS i mark.Comma) (ap (begins bytes) (sym e) ∙ sym s ∙ f);
  longest = λ other rest g. first-longest bytes MARKS i mark.Comma refl h n other (mark-listed other) (stands-from bytes other rest g);
}
