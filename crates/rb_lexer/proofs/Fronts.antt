-- What stands at the front of bytes, from how far each thing reaches.
use Rattle.std.proofs.Common.{◌≡◌, ℕ, suc, ◌+◌, ◌<◌, ◌≤◌, ℤ, pos, true, false, List, [], ◌∷◌, ◌++◌, length, length-append, get_or, take, drop, refl, ap, sym, ◌∙◌, subst, inl, inr, arith}
use Rattle.std.specs.Prelude.{◌⊎◌, ◌==◌, not}
use Rattle.std.proofs.lemmas.List.{append_assoc, take-append-drop, length-take-le, take_at, drop_at, drop_more, drop_all, take_more}
use Rattle.std.proofs.lemmas.Bool.{both_ways, cases_Bool, cases_lt, and_parts, false≢true, eqb-true}
use Rattle.rb_lexer.specs.declared.front.Found.TheVariants as found
use Rattle.rb_lexer.specs.declared.token.TokenKind.{TokenKind}
use Rattle.rb_lexer.specs.declared.token.TokenKind.TheVariants as kind
use Rattle.rb_lexer.specs.declared.token.Keyword.{Keyword}
use Rattle.rb_lexer.specs.declared.token.Mark.{Mark}
use Rattle.rb_lexer.specs.declared.token.Mark.TheVariants as mark
use Rattle.rb_lexer.specs.Character.{is_digit, is_upper, begins_with}
use Rattle.rb_lexer.specs.Integer.{IsInteger, number_of, max_integer, joins_integer}
use Rattle.rb_lexer.specs.Word.{IsPlainName, IsIdentifier, plain, IsConstant, keyword_text}
use Rattle.rb_lexer.specs.Mark.{mark_text}
use Rattle.rb_lexer.specs.Lexeme.{Lexeme, int, keyword, identifier, label, constant, field, global, symbol, constant_symbol, mark as mark_lexeme, Longest}
use Rattle.rb_lexer.specs.Extent.{is_name_start, ends_label, LongestFront, LongestMark}
use Rattle.rb_lexer.specs.Front.{IsFront}
use Rattle.rb_lexer.proofs.Digits.{digit-alone}
use Rattle.rb_lexer.proofs.Shapes.{digit, name_start, capital, sign, colon, other, class, Shape, shape-at, class-digit, class-name_start, class-capital, class-sign}

longest-of : (bytes : List ℕ) (n : ℕ) (k : TokenKind) → n ≤ length bytes → Lexeme (drop n bytes) (take n bytes) k
    → ((front rest : List ℕ) (j : TokenKind) → front ++ rest ≡ bytes → Lexeme rest front j → length front ≤ n) → Longest (take n bytes) (drop n bytes) k
longest-of bytes n k w l b = record {
  lexeme = l;
  longest = λ front rest j e m. let s = length-take-le n bytes w in let i = b front rest j (e ∙ take-append-drop n bytes) m in omega arith;
}

-- integers
integer-some : (bytes : List ℕ) (n : ℕ) → is_digit (get_or bytes 0 0) ≡ true → LongestFront (λ rest. IsInteger) bytes n → 0 < n
integer-some [] n h l = absurd (false≢true h)
integer-some (b ∷ bs) n h l = let i = l.longest (b ∷ []) bs refl (digit-alone b h) in omega arith

pub integer-longest : (bytes : List ℕ) (n : ℕ) → is_digit (get_or bytes 0 0) ≡ true → LongestFront (λ rest. IsInteger) bytes n
    → Longest (take n bytes) (drop n bytes) (kind.Int (pos (number_of (take n bytes))))
integer-longest bytes n h l =
    longest-of bytes n (kind.Int (pos (number_of (take n bytes)))) l.within (int (l.there (integer-some bytes n h l)))
    (λ front rest j e m. l.longest front rest e (shape-at digit bytes (class-digit (get_or bytes 0 0) h) e m))

pub integer-wide : (bytes : List ℕ) (n : ℕ) → is_digit (get_or bytes 0 0) ≡ true → LongestFront (λ rest. IsInteger) bytes n → max_integer < number_of (take n bytes)
    → IsFront bytes found.TooWide
integer-wide bytes n h l w = (n, number_of (take n bytes), l.within, integer-longest bytes n h l, w)

pub integer-joined : (bytes : List ℕ) (n value : ℕ) → is_digit (get_or bytes 0 0) ≡ true → LongestFront (λ rest. IsInteger) bytes n → value ≡ number_of (take n bytes)
    → value ≤ max_integer → joins_integer (drop n bytes) ≡ true → IsFront bytes (found.Joined n)
integer-joined bytes n value h l e w j =
    (value, l.within, subst (λ (v : ℕ). Longest (take n bytes) (drop n bytes) (kind.Int (pos v))) (sym e) (integer-longest bytes n h l), w, j)

pub integer-token : (bytes : List ℕ) (n value : ℕ) (signed : ℤ) → is_digit (get_or bytes 0 0) ≡ true → LongestFront (λ rest. IsInteger) bytes n
    → value ≡ number_of (take n bytes) → value ≤ max_integer → joins_integer (drop n bytes) ≡ false → signed ≡ pos value → IsFront bytes (found.Token (kind.Int signed) n)
integer-token bytes n value signed h l e w j s =
    subst (λ (z : ℤ). IsFront bytes (found.Token (kind.Int z) n)) (sym s)
    (integer-some bytes n h l, l.within, subst (λ (v : ℕ). Longest (take n bytes) (drop n bytes) (kind.Int (pos v))) (sym e) (integer-longest bytes n h l), (w, j))

-- names
name-some : (bytes : List ℕ) (n : ℕ) → is_name_start (get_or bytes 0 0) ≡ true → LongestFront IsIdentifier bytes n → 0 < n
name-some [] n h l = absurd (false≢true h)
name-some (b ∷ bs) n h l = let i = l.longest (b ∷ []) bs refl (plain (h, refl)) in omega arith

label-begins : (rest : List ℕ) → begins_with 58 rest ≡ false → ends_label (58 ∷ rest) ≡ true
label-begins rest h = ap not h

word-shape : (bytes : List ℕ) (n : ℕ) → LongestFront IsIdentifier bytes n → (front rest : List ℕ) → front ++ rest ≡ bytes → Shape name_start rest front
    → (length front ≤ n) ⊎ ((length front ≡ n + 1) × (ends_label (drop n bytes) ≡ true))
word-shape bytes n l front rest e s =
    elim s [
      | inl i ↦ inl (l.longest front rest e i)
      | inr p ↦
          let g : p.0 ++ 58 ∷ rest ≡ bytes = sym (append_assoc p.0 (58 ∷ []) rest) ∙ ap (λ xs. xs ++ rest) (sym p.1) ∙ e in
          let w = l.longest p.0 (58 ∷ rest) g p.2 in
          let f : length front ≡ length p.0 + 1 = ap length p.1 ∙ length-append p.0 (58 ∷ []) in
          elim (cases_lt (length p.0) n) [
            | inl lt ↦ inl (omega arith)
            | inr ge ↦
                let same : length p.0 ≡ n = omega arith in
                inr (omega arith, ap ends_label (sym (ap (drop n) g) ∙ drop_at p.0 (58 ∷ rest) n same) ∙ label-begins rest p.3)
          ]
    ]

word-bound : (bytes : List ℕ) (n : ℕ) → is_name_start (get_or bytes 0 0) ≡ true → LongestFront IsIdentifier bytes n
    → (front rest : List ℕ) (k : TokenKind) → front ++ rest ≡ bytes → Lexeme rest front k → length front ≤ n + 1
word-bound bytes n h l front rest k e m =
    elim (word-shape bytes n l front rest e (shape-at name_start bytes (class-name_start (get_or bytes 0 0) h) e m)) [ inl i ↦ omega arith | inr i ↦ omega (arith, i.0) ]

word-bound_plain : (bytes : List ℕ) (n : ℕ) → is_name_start (get_or bytes 0 0) ≡ true → LongestFront IsIdentifier bytes n → ends_label (drop n bytes) ≡ false
    → (front rest : List ℕ) (k : TokenKind) → front ++ rest ≡ bytes → Lexeme rest front k → length front ≤ n
word-bound_plain bytes n h l p front rest k e m =
    elim (word-shape bytes n l front rest e (shape-at name_start bytes (class-name_start (get_or bytes 0 0) h) e m)) [ inl i ↦ i | inr i ↦ absurd (both_ways _ p i.1) ]

label-parts : (b : ℕ) (bs : List ℕ) → ends_label (b ∷ bs) ≡ true → (b ≡ 58) × (begins_with 58 bs ≡ false)
label-parts b bs h =
    let a = and_parts (b == 58) (not (begins_with 58 bs)) h in (
      eqb-true b 58 a.0,
      elim (cases_Bool (begins_with 58 bs)) [ inl e ↦ absurd (false≢true (sym (ap not e) ∙ a.1)) | inr e ↦ e ],
    )

pub label-token : (bytes name : List ℕ) (n : ℕ) → is_name_start (get_or bytes 0 0) ≡ true → LongestFront IsIdentifier bytes n → ends_label (drop n bytes) ≡ true
    → name ≡ take n bytes → IsFront bytes (found.Token (kind.Label name) (n + 1))
label-token bytes name n h l p t =
    let lt : n < length bytes = elim (cases_lt n (length bytes)) [ inl i ↦ i | inr i ↦ absurd (false≢true (sym (ap ends_label (drop_all n bytes i)) ∙ p)) ] in
    let d = drop_more bytes n 0 lt in
    let q = label-parts (get_or bytes n 0) (drop (n + 1) bytes) (sym (ap ends_label d) ∙ p) in
    let rest : drop n bytes ≡ 58 ∷ drop (n + 1) bytes = d ∙ ap (λ b. b ∷ drop (n + 1) bytes) q.0 in
    let whole : take (n + 1) bytes ≡ take n bytes ++ 58 ∷ [] = take_more bytes n 0 lt ∙ ap (λ b. take n bytes ++ b ∷ []) q.0 in
    let i : IsIdentifier (58 ∷ drop (n + 1) bytes) (take n bytes) = subst (λ (xs : List ℕ). IsIdentifier xs (take n bytes)) rest (l.there (name-some bytes n h l)) in
    let m : Lexeme (drop (n + 1) bytes) (take (n + 1) bytes) (kind.Label (take n bytes))
    = subst (λ (xs : List ℕ). Lexeme (drop (n + 1) bytes) xs (kind.Label (take n bytes))) (sym whole) (label i q.1) in
    subst (λ (xs : List ℕ). IsFront bytes (found.Token (kind.Label xs) (n + 1))) (sym t)
    (omega arith, omega arith, longest-of bytes (n + 1) (kind.Label (take n bytes)) (omega arith) m (word-bound bytes n h l), tt)

pub keyword-token : (bytes : List ℕ) (w : Keyword) (n : ℕ) → is_name_start (get_or bytes 0 0) ≡ true → LongestFront IsIdentifier bytes n → ends_label (drop n bytes) ≡ false
    → take n bytes ≡ keyword_text w → IsFront bytes (found.Token (kind.Keyword w) n)
keyword-token bytes w n h l p t =
    let i : IsIdentifier (drop n bytes) (keyword_text w) = subst (λ (xs : List ℕ). IsIdentifier (drop n bytes) xs) t (l.there (name-some bytes n h l)) in
    let m : Lexeme (drop n bytes) (take n bytes) (kind.Keyword w) = subst (λ (xs : List ℕ). Lexeme (drop n bytes) xs (kind.Keyword w)) (sym t) (keyword w i) in
    (name-some bytes n h l, l.within, longest-of bytes n (kind.Keyword w) l.within m (word-bound_plain bytes n h l p), tt)

pub identifier-token : (bytes name : List ℕ) (n : ℕ) → is_name_start (get_or bytes 0 0) ≡ true → LongestFront IsIdentifier bytes n → ends_label (drop n bytes) ≡ false
    → ((w : Keyword) → take n bytes ≡ keyword_text w → ⊥) → name ≡ take n bytes → IsFront bytes (found.Token (kind.Ident name) n)
identifier-token bytes name n h l p a t =
    subst (λ (xs : List ℕ). IsFront bytes (found.Token (kind.Ident xs) n)) (sym t)
    (name-some bytes n h l, l.within, longest-of bytes n (kind.Ident (take n bytes)) l.within (identifier (l.there (name-some bytes n h l)) a) (word-bound_plain bytes n h l p), tt)

-- class names
constant-some : (bytes : List ℕ) (n : ℕ) → is_upper (get_or bytes 0 0) ≡ true → LongestFront (λ rest. IsConstant) bytes n → 0 < n
constant-some [] n h l = absurd (false≢true h)
constant-some (b ∷ bs) n h l = let i = l.longest (b ∷ []) bs refl (h, refl) in omega arith

pub constant-token : (bytes name : List ℕ) (n : ℕ) → is_upper (get_or bytes 0 0) ≡ true → LongestFront (λ rest. IsConstant) bytes n → name ≡ take n bytes
    → IsFront bytes (found.Token (kind.Const name) n)
constant-token bytes name n h l t =
    let s = constant-some bytes n h l in
    subst (λ (xs : List ℕ). IsFront bytes (found.Token (kind.Const xs) n)) (sym t)
    (s, l.within, longest-of bytes n (kind.Const (take n bytes)) l.within (constant (l.there s)) (λ front rest k e m. l.longest front rest e (shape-at capital bytes (class-capital (get_or bytes 0 0) h) e m)), tt)

-- variables
sign-bound : (bytes : List ℕ) (n : ℕ) → (get_or bytes 0 0 ≡ 64) ⊎ (get_or bytes 0 0 ≡ 36) → LongestFront (λ rest. IsPlainName) (drop 1 bytes) n
    → (front rest : List ℕ) (k : TokenKind) → front ++ rest ≡ bytes → Lexeme rest front k → (0 < n) × (length front ≤ 1 + n)
sign-bound bytes n h l front rest k e m =
    let s = shape-at sign bytes (class-sign (get_or bytes 0 0) h) e m in
    let g : s.1 ++ rest ≡ drop 1 bytes = sym (ap (λ xs. drop 1 (xs ++ rest)) s.2) ∙ ap (drop 1) e in
    let i = l.longest s.1 rest g s.3 in
    let f = ap length s.2 in
    let some = plain-some s.1 s.3 in
    (omega arith, omega arith)
  where
    plain-some : (name : List ℕ) → IsPlainName name → 0 < length name
    plain-some [] p = absurd p
    plain-some (b ∷ bs) p = omega arith

pub sign-nothing : (bytes : List ℕ) → (get_or bytes 0 0 ≡ 64) ⊎ (get_or bytes 0 0 ≡ 36) → LongestFront (λ rest. IsPlainName) (drop 1 bytes) 0 → IsFront bytes found.Nothing
sign-nothing bytes h l = λ front rest k e m. let b = sign-bound bytes 0 h l front rest k e m in omega arith

sign-split : (bytes : List ℕ) (b : ℕ) (n : ℕ) → get_or bytes 0 0 ≡ b → (b ≡ 0 → ⊥) → LongestFront (λ rest. IsPlainName) (drop 1 bytes) n
    → (1 + n ≤ length bytes) × (take (1 + n) bytes ≡ b ∷ take n (drop 1 bytes)) × (drop (1 + n) bytes ≡ drop n (drop 1 bytes))
sign-split [] b n e z l = absurd (z (sym e))
sign-split (x ∷ xs) b n e z l =
    let w = l.within in
    let s : 1 + n ≡ suc n = omega arith in
    (omega arith, ap (λ m. take m (x ∷ xs)) s ∙ ap (λ y. y ∷ take n xs) e, ap (λ m. drop m (x ∷ xs)) s)

pub field-token : (bytes name : List ℕ) (n : ℕ) → get_or bytes 0 0 ≡ 64 → LongestFront (λ rest. IsPlainName) (drop 1 bytes) n → (n ≡ 0 → ⊥) → name ≡ take (1 + n) bytes
    → IsFront bytes (found.Token (kind.Field name) (1 + n))
field-token bytes name n h l z t =
    let s = sign-split bytes 64 n h (λ e. omega arith) l in
    let m : Lexeme (drop (1 + n) bytes) (take (1 + n) bytes) (kind.Field (take (1 + n) bytes))
    = subst (λ (xs : List ℕ). Lexeme (drop (1 + n) bytes) xs (kind.Field xs)) (sym s.1) (field (l.there (omega (arith, z)))) in
    subst (λ (xs : List ℕ). IsFront bytes (found.Token (kind.Field xs) (1 + n))) (sym t)
    (omega arith, s.0, longest-of bytes (1 + n) (kind.Field (take (1 + n) bytes)) s.0 m (λ front rest k e j. (sign-bound bytes n (inl h) l front rest k e j).1), tt)

pub global-token : (bytes name : List ℕ) (n : ℕ) → get_or bytes 0 0 ≡ 36 → LongestFront (λ rest. IsPlainName) (drop 1 bytes) n → (n ≡ 0 → ⊥) → name ≡ take (1 + n) bytes
    → IsFront bytes (found.Token (kind.Global name) (1 + n))
global-token bytes name n h l z t =
    let s = sign-split bytes 36 n h (λ e. omega arith) l in
    let m : Lexeme (drop (1 + n) bytes) (take (1 + n) bytes) (kind.Global (take (1 + n) bytes))
    = subst (λ (xs : List ℕ). Lexeme (drop (1 + n) bytes) xs (kind.Global xs)) (sym s.1) (global (l.there (omega (arith, z)))) in
    subst (λ (xs : List ℕ). IsFront bytes (found.Token (kind.Global xs) (1 + n))) (sym t)
    (omega arith, s.0, longest-of bytes (1 + n) (kind.Global (take (1 + n) bytes)) s.0 m (λ front rest k e j. (sign-bound bytes n (inr h) l front rest k e j).1), tt)

-- symbols
abbrev pub IsSymbolName : List ℕ → List ℕ → Type 0
IsSymbolName rest name = IsIdentifier rest name ⊎ IsConstant name

symbol-bound : (bytes : List ℕ) (n : ℕ) → get_or bytes 0 0 ≡ 58 → LongestFront IsSymbolName (drop 1 bytes) n
    → (front rest : List ℕ) (k : TokenKind) → front ++ rest ≡ bytes → Lexeme rest front k → length front ≤ 1 + n
symbol-bound bytes n h l front rest k e m =
    elim (shape-at colon bytes (ap class h) e m) [
      | inl s ↦ let f = ap length s in omega arith
      | inr s ↦
          let g : s.0 ++ rest ≡ drop 1 bytes = sym (ap (λ xs. drop 1 (xs ++ rest)) s.1) ∙ ap (drop 1) e in
          let i = l.longest s.0 rest g s.2 in
          let f = ap length s.1 in
          omega arith
    ]

symbol-split : (bytes : List ℕ) (n : ℕ) → get_or bytes 0 0 ≡ 58 → n ≤ length (drop 1 bytes)
    → (1 + n ≤ length bytes) × (take (1 + n) bytes ≡ 58 ∷ take n (drop 1 bytes)) × (drop (1 + n) bytes ≡ drop n (drop 1 bytes))
symbol-split [] n e w = absurd (omega arith)
symbol-split (x ∷ xs) n e w =
    let s : 1 + n ≡ suc n = omega arith in
    (omega arith, ap (λ m. take m (x ∷ xs)) s ∙ ap (λ y. y ∷ take n xs) e, ap (λ m. drop m (x ∷ xs)) s)

pub colon-token : (bytes : List ℕ) → get_or bytes 0 0 ≡ 58 → LongestFront IsSymbolName (drop 1 bytes) 0 → IsFront bytes (found.Token (kind.Mark mark.Colon) 1)
colon-token [] h l = absurd (omega arith)
colon-token (b ∷ bs) h l =
    let m : Lexeme bs (b ∷ []) (kind.Mark mark.Colon) = subst (λ (x : ℕ). Lexeme bs (x ∷ []) (kind.Mark mark.Colon)) (sym h) (mark_lexeme mark.Colon) in
    (omega arith, omega arith, longest-of (b ∷ bs) 1 (kind.Mark mark.Colon) (omega arith) m (symbol-bound (b ∷ bs) 0 h l), tt)

symbol-lexeme : (rest name : List ℕ) → IsSymbolName rest name → Lexeme rest (58 ∷ name) (kind.Symbol name)
symbol-lexeme rest name s = elim s [ inl i ↦ symbol i | inr i ↦ constant_symbol i ]

pub symbol-token : (bytes name : List ℕ) (n : ℕ) → get_or bytes 0 0 ≡ 58 → LongestFront IsSymbolName (drop 1 bytes) n → (n ≡ 0 → ⊥) → name ≡ take n (drop 1 bytes)
    → IsFront bytes (found.Token (kind.Symbol name) (1 + n))
symbol-token bytes name n h l z t =
    let s = symbol-split bytes n h l.within in
    let rest = drop n (drop 1 bytes) in
    let m : Lexeme (drop (1 + n) bytes) (take (1 + n) bytes) (kind.Symbol (take n (drop 1 bytes)))
    = subst (λ (xs : List ℕ). Lexeme (drop (1 + n) bytes) xs (kind.Symbol (take n (drop 1 bytes)))) (sym s.1)
    (subst (λ (r : List ℕ). Lexeme r (58 ∷ take n (drop 1 bytes)) (kind.Symbol (take n (drop 1 bytes)))) (sym s.2) (symbol-lexeme rest (take n (drop 1 bytes)) (l.there (omega (arith, z))))) in
    subst (λ (xs : List ℕ). IsFront bytes (found.Token (kind.Symbol xs) (1 + n))) (sym t)
    (omega arith, s.0, longest-of bytes (1 + n) (kind.Symbol (take n (drop 1 bytes))) s.0 m (symbol-bound bytes n h l), tt)

-- marks
mark-some : (m : Mark) → 0 < length (mark_text m)
mark-some mark.Comma = omega arith
mark-some m = omega arith

pub mark-token : (bytes : List ℕ) (m : Mark) (n : ℕ) → class (get_or bytes 0 0) ≡ other → LongestMark bytes m → n ≡ length (mark_text m) → IsFront bytes (found.Token (kind.Mark m) n)
mark-token bytes m n h l e =
    let size = length (mark_text m) in
    let w : size ≤ length bytes = omega (arith, sym (length-append (mark_text m) (drop size bytes)) ∙ ap length l.there) in
    let front : take size bytes ≡ mark_text m = sym (ap (take size) l.there) ∙ take_at (mark_text m) (drop size bytes) size refl in
    let x : Lexeme (drop size bytes) (take size bytes) (kind.Mark m) = subst (λ (xs : List ℕ). Lexeme (drop size bytes) xs (kind.Mark m)) (sym front) (mark_lexeme m) in
    subst (λ (k : ℕ). IsFront bytes (found.Token (kind.Mark m) k)) (sym e) (
      mark-some m,
      w,
      longest-of bytes size (kind.Mark m) w x (λ head rest k f j.
          let s = shape-at other bytes h f j in
          let i = l.longest s.0 rest (sym (ap (λ xs. xs ++ rest) s.1) ∙ f) in
          let z = ap length s.1 in
          omega arith),
      tt,
    )

pub mark-nothing : (bytes : List ℕ) → class (get_or bytes 0 0) ≡ other → ((m : Mark) (rest : List ℕ) → mark_text m ++ rest ≡ bytes → ⊥) → IsFront bytes found.Nothing
mark-nothing bytes h n = λ front rest k e m. let s = shape-at other bytes h e m in n s.0 rest (sym (ap (λ xs. xs ++ rest) s.1) ∙ e)

pub nil-nothing : (bytes : List ℕ) → length bytes ≡ 0 → IsFront bytes found.Nothing
nil-nothing [] h = mark-nothing [] refl (λ m rest e. let s = mark-some m in let z = ap length e in omega (arith, length-append (mark_text m) rest))
nil-nothing (b ∷ bs) h = absurd (omega arith)
