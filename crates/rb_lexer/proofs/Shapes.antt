-- What the first byte of a token says of it.
use Rattle.std.proofs.Common.{◌≡◌, ℕ, true, false, cond, List, [], ◌∷◌, ◌++◌, get_or, refl, ap, sym, ◌∙◌, subst, inl, inr, arith}
use Rattle.std.specs.Prelude.{◌||◌, ◌==◌, ◌⊎◌}
use Rattle.std.proofs.lemmas.List.{append_assoc}
use Rattle.std.proofs.lemmas.Bool.{or_from, ne_eqb}
use Rattle.std.proofs.lemmas.Bool.Decides.{nat_tests}
use Rattle.rb_lexer.specs.declared.token.TokenKind.{TokenKind}
use Rattle.rb_lexer.specs.declared.token.Mark.{Mark}
use Rattle.rb_lexer.specs.declared.token.Mark.TheVariants as mark
use Rattle.rb_lexer.specs.Character.{is_digit, is_upper, begins_with}
use Rattle.rb_lexer.specs.Integer.{IsInteger}
use Rattle.rb_lexer.specs.Word.{IsPlainName, IsIdentifier, IsConstant, keyword_text}
use Rattle.rb_lexer.specs.Mark.{mark_text}
use Rattle.rb_lexer.specs.Lexeme.{Lexeme, int, keyword, identifier, label, constant, field, global, symbol, constant_symbol, mark as mark_lexeme}
use Rattle.rb_lexer.specs.Extent.{is_name_start}
use Rattle.rb_lexer.proofs.Runs.{constant-first, identifier-first}
use Rattle.rb_lexer.proofs.Digits.{integer-first}

-- what a first byte may begin
pub data Class : Type 0 where
  digit : Class
  name_start : Class
  capital : Class
  sign : Class
  colon : Class
  other : Class

abbrev pub class : ℕ → Class
class b =
    cond (is_digit b) digit (cond (is_name_start b) name_start (cond (is_upper b) capital (cond (b == 64 || b == 36) sign (cond (b == 58) colon other))))

-- a token whose first byte is of this class, before what follows it
abbrev pub Shape : Class → (rest bytes : List ℕ) → Type 0
Shape digit rest bytes = IsInteger bytes
Shape name_start rest bytes = IsIdentifier rest bytes ⊎ ((name : List ℕ) × (bytes ≡ name ++ 58 ∷ []) × IsIdentifier (58 ∷ rest) name × (begins_with 58 rest ≡ false))
Shape capital rest bytes = IsConstant bytes
Shape sign rest bytes = (b : ℕ) × (name : List ℕ) × (bytes ≡ b ∷ name) × IsPlainName name
Shape colon rest bytes = (bytes ≡ 58 ∷ []) ⊎ ((name : List ℕ) × (bytes ≡ 58 ∷ name) × (IsIdentifier rest name ⊎ IsConstant name))
Shape other rest bytes = (m : Mark) × (bytes ≡ mark_text m)

pub class-digit : (b : ℕ) → is_digit b ≡ true → class b ≡ digit
class-digit b h = ap (λ t. cond t digit (cond (is_name_start b) name_start (cond (is_upper b) capital (cond (b == 64 || b == 36) sign (cond (b == 58) colon other))))) h

name_start-no_digit : (b : ℕ) → is_name_start b ≡ true → is_digit b ≡ false
name_start-no_digit b h = grind (arith, nat_tests)

upper-no_digit : (b : ℕ) → is_upper b ≡ true → is_digit b ≡ false
upper-no_digit b h = grind (arith, nat_tests)

upper-no_start : (b : ℕ) → is_upper b ≡ true → is_name_start b ≡ false
upper-no_start b h = grind (arith, nat_tests)

pub class-name_start : (b : ℕ) → is_name_start b ≡ true → class b ≡ name_start
class-name_start b h =
    ap (λ t. cond t digit (cond (is_name_start b) name_start (cond (is_upper b) capital (cond (b == 64 || b == 36) sign (cond (b == 58) colon other))))) (name_start-no_digit b h)
    ∙ ap (λ t. cond t name_start (cond (is_upper b) capital (cond (b == 64 || b == 36) sign (cond (b == 58) colon other)))) h

pub class-capital : (b : ℕ) → is_upper b ≡ true → class b ≡ capital
class-capital b h =
    ap (λ t. cond t digit (cond (is_name_start b) name_start (cond (is_upper b) capital (cond (b == 64 || b == 36) sign (cond (b == 58) colon other))))) (upper-no_digit b h)
    ∙ ap (λ t. cond t name_start (cond (is_upper b) capital (cond (b == 64 || b == 36) sign (cond (b == 58) colon other)))) (upper-no_start b h)
    ∙ ap (λ t. cond t capital (cond (b == 64 || b == 36) sign (cond (b == 58) colon other))) h

pub class-sign : (b : ℕ) → (b ≡ 64) ⊎ (b ≡ 36) → class b ≡ sign
class-sign b h = elim h [ inl e ↦ ap class e | inr e ↦ ap class e ]

pub class-other : (b : ℕ) → is_digit b ≡ false → is_name_start b ≡ false → is_upper b ≡ false → (b == 64 || b == 36) ≡ false → (b == 58) ≡ false → class b ≡ other
class-other b d n u s c =
    ap (λ t. cond t digit (cond (is_name_start b) name_start (cond (is_upper b) capital (cond (b == 64 || b == 36) sign (cond (b == 58) colon other))))) d
    ∙ ap (λ t. cond t name_start (cond (is_upper b) capital (cond (b == 64 || b == 36) sign (cond (b == 58) colon other)))) n
    ∙ ap (λ t. cond t capital (cond (b == 64 || b == 36) sign (cond (b == 58) colon other))) u
    ∙ ap (λ t. cond t sign (cond (b == 58) colon other)) s
    ∙ ap (λ t. cond t colon other) c

at : (c : Class) (rest bytes : List ℕ) → class (get_or (bytes ++ rest) 0 0) ≡ c → Shape c rest bytes → Shape (class (get_or (bytes ++ rest) 0 0)) rest bytes
at c rest bytes e s = subst (λ (k : Class). Shape k rest bytes) (sym e) s

-- the first byte
abbrev first : List ℕ → List ℕ → ℕ
first bytes rest = get_or (bytes ++ rest) 0 0

label-first : (rest name : List ℕ) → IsIdentifier (58 ∷ rest) name → is_name_start (get_or ((name ++ 58 ∷ []) ++ rest) 0 0) ≡ true
label-first rest name i = ap (λ xs. is_name_start (get_or xs 0 0)) (append_assoc name (58 ∷ []) rest) ∙ identifier-first i (58 ∷ rest)

mark-shape : (m : Mark) (rest : List ℕ) → Shape (class (get_or (mark_text m ++ rest) 0 0)) rest (mark_text m)
mark-shape mark.Colon rest = inl refl
mark-shape m rest = (m, refl)

pub lexeme-shape : {rest bytes : List ℕ} {k : TokenKind} → Lexeme rest bytes k → Shape (class (get_or (bytes ++ rest) 0 0)) rest bytes
lexeme-shape {rest} (int {bytes = bs} i) = at digit rest bs (class-digit (first bs rest) (integer-first bs rest i)) i
lexeme-shape {rest} (keyword w i) = at name_start rest (keyword_text w) (class-name_start (first (keyword_text w) rest) (identifier-first i rest)) (inl i)
lexeme-shape {rest} (identifier {name = n} i a) = at name_start rest n (class-name_start (first n rest) (identifier-first i rest)) (inl i)
lexeme-shape {rest} (label {name = n} i a) = at name_start rest (n ++ 58 ∷ []) (class-name_start (first (n ++ 58 ∷ []) rest) (label-first rest n i)) (inr (n, refl, i, a))
lexeme-shape {rest} (constant {name = n} i) = at capital rest n (class-capital (first n rest) (constant-first n rest i)) i
lexeme-shape {rest} (field {name = n} i) = (64, n, refl, i)
lexeme-shape {rest} (global {name = n} i) = (36, n, refl, i)
lexeme-shape {rest} (symbol {name = n} i) = inr (n, refl, inl i)
lexeme-shape {rest} (constant_symbol {name = n} i) = inr (n, refl, inr i)
lexeme-shape {rest} (mark_lexeme m) = mark-shape m rest

-- a token at the front of bytes whose first byte is of this class
pub shape-at : (c : Class) (bytes : List ℕ) → class (get_or bytes 0 0) ≡ c → {front rest : List ℕ} {k : TokenKind} → front ++ rest ≡ bytes → Lexeme rest front k → Shape c rest front
shape-at c bytes h {front} {rest} e l =
    subst (λ (k : Class). Shape k rest front) (ap (λ xs. class (get_or xs 0 0)) e ∙ h) (lexeme-shape l)

pub class-none : (b : ℕ) → is_digit b ≡ false → is_name_start b ≡ false → is_upper b ≡ false → (b ≡ 64 → ⊥) → (b ≡ 36 → ⊥) → (b ≡ 58 → ⊥) → class b ≡ other
class-none b d n u s t c = class-other b d n u (or_from (b == 64) (b == 36) (ne_eqb b 64 s) (ne_eqb b 36 t)) (ne_eqb b 58 c)
