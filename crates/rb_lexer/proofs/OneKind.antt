-- The bytes of a token settle its kind, and no token begins like white space, a comment or a text.
use Rattle.std.proofs.Common.{◌≡◌, ℕ, ◌≤◌, pos, Bool, true, false, not, cond, List, [], ◌∷◌, ◌++◌, refl, ap, sym, ◌∙◌, inl, inr, ◌⊎◌, arith}
use Rattle.std.specs.Prelude.{◌&&◌, ◌||◌, ◌==◌}
use Rattle.std.specs.List.{list_all}
use Rattle.std.specs.Str.{bytes_eq}
use Rattle.std.proofs.lemmas.Bool.{and_from, cond-true, cond-false}
use Rattle.std.proofs.lemmas.Bool.Decides.{nat_tests}
use Rattle.std.proofs.lemmas.List.{same_from_push}
use Rattle.rb_lexer.specs.declared.token.TokenKind.{TokenKind}
use Rattle.rb_lexer.specs.declared.token.TokenKind.TheVariants as kind
use Rattle.rb_lexer.specs.declared.token.Keyword.{Keyword}
use Rattle.rb_lexer.specs.declared.token.Keyword.TheVariants as word
use Rattle.rb_lexer.specs.declared.token.Mark.{Mark}
use Rattle.rb_lexer.specs.declared.token.Mark.TheVariants as mark
use Rattle.rb_lexer.specs.Character.{is_digit, is_lower, is_upper, is_word_part, is_blank, is_line_end}
use Rattle.rb_lexer.specs.Integer.{IsInteger, number_of}
use Rattle.rb_lexer.specs.Word.{IsPlainName, IsIdentifier, plain, marked, IsConstant, keyword_text}
use Rattle.rb_lexer.specs.Mark.{mark_text}
use Rattle.rb_lexer.specs.Lexeme.{Lexeme, int, keyword, identifier, label, constant, field, global, symbol, constant_symbol, mark}

keyword_in : List Keyword → List ℕ → Keyword
keyword_in [] text = word.Class
keyword_in (w ∷ ws) text = cond (bytes_eq (keyword_text w) text) w (keyword_in ws text)

keyword_of : List ℕ → Keyword
keyword_of text = keyword_in (word.Class ∷ word.Def ∷ word.End ∷ word.If ∷ word.Elsif ∷ word.Else ∷ word.Unless ∷ word.While ∷ word.Until ∷ word.Then ∷ word.Do ∷ word.Return ∷ word.Break ∷ word.Next ∷ word.SelfRef ∷ word.True ∷ word.False ∷ word.Nil ∷ word.Alias ∷ word.And ∷ word.Begin ∷ word.Case ∷ word.Defined ∷ word.Ensure ∷ word.For ∷ word.In ∷ word.Module ∷ word.Not ∷ word.Or ∷ word.Redo ∷ word.Rescue ∷ word.Retry ∷ word.Super ∷ word.Undef ∷ word.When ∷ word.Yield ∷ []) text

keyword_of-text : (w : Keyword) → keyword_of (keyword_text w) ≡ w
unfolding keyword_of keyword_in
keyword_of-text word.Class = refl
keyword_of-text word.Def = refl
keyword_of-text word.End = refl
keyword_of-text word.If = refl
keyword_of-text word.Elsif = refl
keyword_of-text word.Else = refl
keyword_of-text word.Unless = refl
keyword_of-text word.While = refl
keyword_of-text word.Until = refl
keyword_of-text word.Then = refl
keyword_of-text word.Do = refl
keyword_of-text word.Return = refl
keyword_of-text word.Break = refl
keyword_of-text word.Next = refl
keyword_of-text word.SelfRef = refl
keyword_of-text word.True = refl
keyword_of-text word.False = refl
keyword_of-text word.Nil = refl
keyword_of-text word.Alias = refl
keyword_of-text word.And = refl
keyword_of-text word.Begin = refl
keyword_of-text word.Case = refl
keyword_of-text word.Defined = refl
keyword_of-text word.Ensure = refl
keyword_of-text word.For = refl
keyword_of-text word.In = refl
keyword_of-text word.Module = refl
keyword_of-text word.Not = refl
keyword_of-text word.Or = refl
keyword_of-text word.Redo = refl
keyword_of-text word.Rescue = refl
keyword_of-text word.Retry = refl
keyword_of-text word.Super = refl
keyword_of-text word.Undef = refl
keyword_of-text word.When = refl
keyword_of-text word.Yield = refl

mark_in : List Mark → List ℕ → Mark
mark_in [] text = mark.Comma
mark_in (m ∷ ms) text = cond (bytes_eq (mark_text m) text) m (mark_in ms text)

mark_of : List ℕ → Mark
mark_of text = mark_in (mark.Comma ∷ mark.OpenParen ∷ mark.OpenBracket ∷ mark.OpenBrace ∷ mark.Dot ∷ mark.Assign ∷ mark.PlusAssign ∷ mark.MinusAssign ∷ mark.TimesAssign ∷ mark.OverAssign ∷ mark.ModuloAssign ∷ mark.OrAssign ∷ mark.AndAssign ∷ mark.Question ∷ mark.Colon ∷ mark.Not ∷ mark.AndAnd ∷ mark.OrOr ∷ mark.Arrow ∷ mark.Equal ∷ mark.NotEqual ∷ mark.Less ∷ mark.LessEqual ∷ mark.Greater ∷ mark.GreaterEqual ∷ mark.ShiftLeft ∷ mark.Plus ∷ mark.Minus ∷ mark.Times ∷ mark.Over ∷ mark.Modulo ∷ mark.Bar ∷ mark.CloseParen ∷ mark.CloseBracket ∷ mark.CloseBrace ∷ []) text

mark_of-text : (m : Mark) → mark_of (mark_text m) ≡ m
unfolding mark_of mark_in
mark_of-text mark.Comma = refl
mark_of-text mark.OpenParen = refl
mark_of-text mark.OpenBracket = refl
mark_of-text mark.OpenBrace = refl
mark_of-text mark.Dot = refl
mark_of-text mark.Assign = refl
mark_of-text mark.PlusAssign = refl
mark_of-text mark.MinusAssign = refl
mark_of-text mark.TimesAssign = refl
mark_of-text mark.OverAssign = refl
mark_of-text mark.ModuloAssign = refl
mark_of-text mark.OrAssign = refl
mark_of-text mark.AndAssign = refl
mark_of-text mark.Question = refl
mark_of-text mark.Colon = refl
mark_of-text mark.Not = refl
mark_of-text mark.AndAnd = refl
mark_of-text mark.OrOr = refl
mark_of-text mark.Arrow = refl
mark_of-text mark.Equal = refl
mark_of-text mark.NotEqual = refl
mark_of-text mark.Less = refl
mark_of-text mark.LessEqual = refl
mark_of-text mark.Greater = refl
mark_of-text mark.GreaterEqual = refl
mark_of-text mark.ShiftLeft = refl
mark_of-text mark.Plus = refl
mark_of-text mark.Minus = refl
mark_of-text mark.Times = refl
mark_of-text mark.Over = refl
mark_of-text mark.Modulo = refl
mark_of-text mark.Bar = refl
mark_of-text mark.CloseParen = refl
mark_of-text mark.CloseBracket = refl
mark_of-text mark.CloseBrace = refl

-- whether bytes end in `:`
abbrev ends_colon : List ℕ → Bool
ends_colon [] = false
ends_colon (b ∷ []) = b == 58
ends_colon (b ∷ c ∷ bs) = ends_colon (c ∷ bs)

-- `:` alone, or a symbol
abbrev colon_sort : List ℕ → ℕ
colon_sort [] = 7
colon_sort (b ∷ bs) = 6

-- which sort of token bytes are, where they are one
abbrev pub sort_of : List ℕ → ℕ
sort_of [] = 8
sort_of (b ∷ bs) =
    cond (is_digit b) 0
    (cond (is_lower b || b == 95) (cond (ends_colon (b ∷ bs)) 1 2) (cond (is_upper b) 3 (cond (b == 64) 4 (cond (b == 36) 5 (cond (b == 58) (colon_sort bs) 7)))))

-- the sort of a kind
abbrev pub sort_of_kind : TokenKind → ℕ
sort_of_kind (kind.Int n) = 0
sort_of_kind (kind.Label name) = 1
sort_of_kind (kind.Keyword w) = 2
sort_of_kind (kind.Ident name) = 2
sort_of_kind (kind.Const name) = 3
sort_of_kind (kind.Field name) = 4
sort_of_kind (kind.Global name) = 5
sort_of_kind (kind.Symbol name) = 6
sort_of_kind (kind.Mark m) = 7
sort_of_kind k = 8

digit-zero : (b : ℕ) → b ≡ 48 → is_digit b ≡ true
digit-zero b e = grind (arith, nat_tests)

digit-other : (b : ℕ) → 49 ≤ b → b ≤ 57 → is_digit b ≡ true
digit-other b l h = grind (arith, nat_tests)

digit-first : (b : ℕ) (bs : List ℕ) → IsInteger (b ∷ bs) → is_digit b ≡ true
digit-first b bs h = elim h [ inl z ↦ digit-zero b z.0 | inr s ↦ digit-other b s.0 s.1 ]

word-digit : (b : ℕ) → (is_lower b || b == 95) ≡ true → is_digit b ≡ false
word-digit b h = grind (arith, nat_tests)

upper-digit : (b : ℕ) → is_upper b ≡ true → is_digit b ≡ false
upper-digit b h = grind (arith, nat_tests)

upper-word : (b : ℕ) → is_upper b ≡ true → (is_lower b || b == 95) ≡ false
upper-word b h = grind (arith, nat_tests)

part-colon : (b : ℕ) → is_word_part b ≡ true → (b == 58) ≡ false
part-colon b h = grind (arith, nat_tests)

word-part : (b : ℕ) → (is_lower b || b == 95) ≡ true → is_word_part b ≡ true
word-part b h = grind (arith, nat_tests)

and_first : (x y : Bool) → (x && y) ≡ true → x ≡ true
and_first true y h = refl
and_first false y h = h

and_second : (x y : Bool) → (x && y) ≡ true → y ≡ true
and_second true y h = h
and_second false y h = absurd (cc)

parts-colon : (bs : List ℕ) → list_all is_word_part bs ≡ true → ends_colon bs ≡ false
parts-colon [] h = refl
parts-colon (b ∷ []) h = part-colon b (and_first (is_word_part b) true h)
parts-colon (b ∷ c ∷ bs) h = parts-colon (c ∷ bs) (and_second (is_word_part b) (list_all is_word_part (c ∷ bs)) h)

colon-push : (bs : List ℕ) (m : ℕ) → ends_colon (bs ++ m ∷ []) ≡ (m == 58)
colon-push [] m = refl
colon-push (b ∷ []) m = refl
colon-push (b ∷ c ∷ bs) m = colon-push (c ∷ bs) m

integer-sort : (bs : List ℕ) → IsInteger bs → sort_of bs ≡ 0
integer-sort [] h = absurd h
integer-sort (b ∷ bs) h = cond-true (is_digit b) _ _ (digit-first b bs h)

-- what begins like a word
word-sort : (b : ℕ) (bs : List ℕ) → (is_lower b || b == 95) ≡ true → sort_of (b ∷ bs) ≡ cond (ends_colon (b ∷ bs)) 1 2
word-sort b bs h = cond-false (is_digit b) _ _ (word-digit b h) ∙ cond-true (is_lower b || b == 95) _ _ h

word-sort_plain : (name : List ℕ) → IsPlainName name → sort_of name ≡ 2
word-sort_plain [] h = absurd h
word-sort_plain (b ∷ bs) h =
    word-sort b bs h.0 ∙ cond-false (ends_colon (b ∷ bs)) 1 2 (parts-colon (b ∷ bs) (and_from (is_word_part b) (list_all is_word_part bs) (word-part b h.0) h.1))

word-sort_push : (name : List ℕ) (m : ℕ) → IsPlainName name → sort_of (name ++ m ∷ []) ≡ cond (m == 58) 1 2
word-sort_push [] m h = absurd h
word-sort_push (b ∷ bs) m h = word-sort b (bs ++ m ∷ []) h.0 ∙ ap (λ t. cond t 1 2) (colon-push (b ∷ bs) m)

mark-colon : (m : ℕ) → (m ≡ 63) ⊎ (m ≡ 33) → (m == 58) ≡ false
mark-colon m h = elim h [ inl e ↦ ap (λ x. x == 58) e | inr e ↦ ap (λ x. x == 58) e ]

identifier-sort : {rest name : List ℕ} → IsIdentifier rest name → sort_of name ≡ 2
identifier-sort (plain {name = n} p) = word-sort_plain n p
identifier-sort (marked n m p h f) = word-sort_push n m p ∙ cond-false (m == 58) 1 2 (mark-colon m h)

push-twice : (n : List ℕ) (m c : ℕ) → IsPlainName n → sort_of ((n ++ m ∷ []) ++ c ∷ []) ≡ cond (c == 58) 1 2
push-twice [] m c h = absurd h
push-twice (b ∷ bs) m c h = word-sort b ((bs ++ m ∷ []) ++ c ∷ []) h.0 ∙ ap (λ t. cond t 1 2) (colon-push (b ∷ bs ++ m ∷ []) c)

label-sort : {rest name : List ℕ} → IsIdentifier rest name → sort_of (name ++ 58 ∷ []) ≡ 1
label-sort (plain {name = n} p) = word-sort_push n 58 p
label-sort (marked n m p h f) = push-twice n m 58 p

constant-sort : (name : List ℕ) → IsConstant name → sort_of name ≡ 3
constant-sort [] h = absurd h
constant-sort (b ∷ bs) h = cond-false (is_digit b) _ _ (upper-digit b h.0) ∙ cond-false (is_lower b || b == 95) _ _ (upper-word b h.0) ∙ cond-true (is_upper b) _ _ h.0

colon-identifier : {rest name : List ℕ} → IsIdentifier rest name → colon_sort name ≡ 6
colon-identifier (plain {name = n} p) = some n p where
  some : (n : List ℕ) → IsPlainName n → colon_sort n ≡ 6
  some [] h = absurd h
  some (b ∷ bs) h = refl
colon-identifier (marked n m p h f) = some n p where
  some : (n : List ℕ) → IsPlainName n → colon_sort (n ++ m ∷ []) ≡ 6
  some [] h = absurd h
  some (b ∷ bs) h = refl

colon-constant : (name : List ℕ) → IsConstant name → colon_sort name ≡ 6
colon-constant [] h = absurd h
colon-constant (b ∷ bs) h = refl

mark-sort : (m : Mark) → sort_of (mark_text m) ≡ 7
mark-sort mark.Comma = refl
mark-sort mark.OpenParen = refl
mark-sort mark.OpenBracket = refl
mark-sort mark.OpenBrace = refl
mark-sort mark.Dot = refl
mark-sort mark.Assign = refl
mark-sort mark.PlusAssign = refl
mark-sort mark.MinusAssign = refl
mark-sort mark.TimesAssign = refl
mark-sort mark.OverAssign = refl
mark-sort mark.ModuloAssign = refl
mark-sort mark.OrAssign = refl
mark-sort mark.AndAssign = refl
mark-sort mark.Question = refl
mark-sort mark.Colon = refl
mark-sort mark.Not = refl
mark-sort mark.AndAnd = refl
mark-sort mark.OrOr = refl
mark-sort mark.Arrow = refl
mark-sort mark.Equal = refl
mark-sort mark.NotEqual = refl
mark-sort mark.Less = refl
mark-sort mark.LessEqual = refl
mark-sort mark.Greater = refl
mark-sort mark.GreaterEqual = refl
mark-sort mark.ShiftLeft = refl
mark-sort mark.Plus = refl
mark-sort mark.Minus = refl
mark-sort mark.Times = refl
mark-sort mark.Over = refl
mark-sort mark.Modulo = refl
mark-sort mark.Bar = refl
mark-sort mark.CloseParen = refl
mark-sort mark.CloseBracket = refl
mark-sort mark.CloseBrace = refl

-- the bytes settle the sort
pub lexeme-sort : {rest bytes : List ℕ} {k : TokenKind} → Lexeme rest bytes k → sort_of bytes ≡ sort_of_kind k
lexeme-sort (int {bytes = bs} i) = integer-sort bs i
lexeme-sort (keyword w i) = identifier-sort i
lexeme-sort (identifier i n) = identifier-sort i
lexeme-sort (label i b) = label-sort i
lexeme-sort (constant {name = n} c) = constant-sort n c
lexeme-sort (field p) = refl
lexeme-sort (global p) = refl
lexeme-sort (symbol i) = colon-identifier i
lexeme-sort (constant_symbol {name = n} c) = colon-constant n c
lexeme-sort (mark m) = mark-sort m

-- the bytes settle the kind
pub one_kind : {rest rest' bytes bytes' : List ℕ} {k k' : TokenKind} → Lexeme rest bytes k → Lexeme rest' bytes' k' → bytes ≡ bytes' → k ≡ k'
one_kind (int i) (int j) e = ap (λ bs. kind.Int (pos (number_of bs))) e
one_kind (keyword w i) (keyword v j) e = ap kind.Keyword (sym (keyword_of-text w) ∙ ap keyword_of e ∙ keyword_of-text v)
one_kind (keyword w i) (identifier j n) e = absurd (n w (sym e))
one_kind (identifier i n) (keyword w j) e = absurd (n w e)
one_kind (identifier i n) (identifier j m) e = ap kind.Ident e
one_kind (label {name = n} i b) (label {name = m} j c) e = ap kind.Label (same_from_push n m 58 58 e).0
one_kind (constant c) (constant d) e = ap kind.Const e
one_kind (field p) (field r) e = ap kind.Field e
one_kind (global p) (global r) e = ap kind.Global e
one_kind (symbol {name = n} i) (symbol {name = m} j) e = let s : n ≡ m = cc in ap kind.Symbol s
one_kind (symbol {name = n} i) (constant_symbol {name = m} j) e = let s : n ≡ m = cc in ap kind.Symbol s
one_kind (constant_symbol {name = n} i) (symbol {name = m} j) e = let s : n ≡ m = cc in ap kind.Symbol s
one_kind (constant_symbol {name = n} i) (constant_symbol {name = m} j) e = let s : n ≡ m = cc in ap kind.Symbol s
one_kind (mark m) (mark n) e = ap kind.Mark (sym (mark_of-text m) ∙ ap mark_of e ∙ mark_of-text n)
one_kind {k = k} {k' = k'} l m e = absurd (let s : sort_of_kind k ≡ sort_of_kind k' = sym (lexeme-sort l) ∙ ap sort_of e ∙ lexeme-sort m in omega (arith, s))

-- whether a character may begin a token
abbrev pub may_begin : ℕ → Bool
may_begin b = not (is_blank b || is_line_end b || b == 35 || b == 34 || b == 39)

abbrev pub begins_token : List ℕ → Bool
begins_token [] = false
begins_token (b ∷ bs) = may_begin b

digit-begins : (b : ℕ) → is_digit b ≡ true → may_begin b ≡ true
digit-begins b h = grind (arith, nat_tests)

word-begins : (b : ℕ) → (is_lower b || b == 95) ≡ true → may_begin b ≡ true
word-begins b h = grind (arith, nat_tests)

upper-begins : (b : ℕ) → is_upper b ≡ true → may_begin b ≡ true
upper-begins b h = grind (arith, nat_tests)

integer-begins : (bs : List ℕ) → IsInteger bs → begins_token bs ≡ true
integer-begins [] h = absurd h
integer-begins (b ∷ bs) h = digit-begins b (digit-first b bs h)

plain-begins : (n rest : List ℕ) → IsPlainName n → begins_token (n ++ rest) ≡ true
plain-begins [] rest h = absurd h
plain-begins (b ∷ bs) rest h = word-begins b h.0

identifier-begins : {rest name : List ℕ} → IsIdentifier rest name → (more : List ℕ) → begins_token (name ++ more) ≡ true
identifier-begins (plain {name = n} p) more = plain-begins n more p
identifier-begins (marked n m p h f) more = twice n p where
  twice : (n : List ℕ) → IsPlainName n → begins_token ((n ++ m ∷ []) ++ more) ≡ true
  twice [] h = absurd h
  twice (b ∷ bs) h = word-begins b h.0

constant-begins : (n : List ℕ) → IsConstant n → begins_token n ≡ true
constant-begins [] h = absurd h
constant-begins (b ∷ bs) h = upper-begins b h.0

mark-begins : (m : Mark) → begins_token (mark_text m) ≡ true
mark-begins mark.Comma = refl
mark-begins mark.OpenParen = refl
mark-begins mark.OpenBracket = refl
mark-begins mark.OpenBrace = refl
mark-begins mark.Dot = refl
mark-begins mark.Assign = refl
mark-begins mark.PlusAssign = refl
mark-begins mark.MinusAssign = refl
mark-begins mark.TimesAssign = refl
mark-begins mark.OverAssign = refl
mark-begins mark.ModuloAssign = refl
mark-begins mark.OrAssign = refl
mark-begins mark.AndAssign = refl
mark-begins mark.Question = refl
mark-begins mark.Colon = refl
mark-begins mark.Not = refl
mark-begins mark.AndAnd = refl
mark-begins mark.OrOr = refl
mark-begins mark.Arrow = refl
mark-begins mark.Equal = refl
mark-begins mark.NotEqual = refl
mark-begins mark.Less = refl
mark-begins mark.LessEqual = refl
mark-begins mark.Greater = refl
mark-begins mark.GreaterEqual = refl
mark-begins mark.ShiftLeft = refl
mark-begins mark.Plus = refl
mark-begins mark.Minus = refl
mark-begins mark.Times = refl
mark-begins mark.Over = refl
mark-begins mark.Modulo = refl
mark-begins mark.Bar = refl
mark-begins mark.CloseParen = refl
mark-begins mark.CloseBracket = refl
mark-begins mark.CloseBrace = refl

begins-left : (n rest : List ℕ) → begins_token (n ++ rest) ≡ true → rest ≡ [] → begins_token n ≡ true
begins-left [] rest h e = absurd (let f : begins_token [] ≡ true = ap begins_token (sym e) ∙ h in cc)
begins-left (b ∷ bs) rest h e = h

-- no token is empty, or begins like white space, a comment or a text
pub lexeme-begins : {rest bytes : List ℕ} {k : TokenKind} → Lexeme rest bytes k → begins_token bytes ≡ true
lexeme-begins (int {bytes = bs} i) = integer-begins bs i
lexeme-begins (keyword w i) = begins-left (keyword_text w) [] (identifier-begins i []) refl
lexeme-begins (identifier {name = n} i m) = begins-left n [] (identifier-begins i []) refl
lexeme-begins (label i b) = identifier-begins i (58 ∷ [])
lexeme-begins (constant {name = n} c) = constant-begins n c
lexeme-begins (field p) = refl
lexeme-begins (global p) = refl
lexeme-begins (symbol i) = refl
lexeme-begins (constant_symbol c) = refl
lexeme-begins (mark m) = mark-begins m
