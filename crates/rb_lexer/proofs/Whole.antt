-- The tokens of a source end once, and what each of them is.
use Rattle.std.proofs.Common.{◌≡◌, ◌≢◌, ℕ, ◌<◌, Bool, true, false, cond, List, [], ◌∷◌, length, Ok, Err, Result, Vec, refl, sym, ap, subst, arith}
use Rattle.std.specs.Prelude.{IfOk, pos, ◌≤ℤ◌}
use Rattle.std.specs.List.{AllByRecursion}
use Rattle.std.proofs.Math.Dec.{le→leb}
use Rattle.std.proofs.lemmas.Bool.{both_ways}
use Rattle.std.specs.declared.alloc.Global.{Global}
use Rattle.rb_lexer.specs.declared.token.Token.{Token}
use Rattle.rb_lexer.specs.declared.token.TokenKind.{TokenKind}
use Rattle.rb_lexer.specs.declared.token.TokenKind.TheVariants as kind
use Rattle.rb_lexer.specs.declared.fault.LexFault.{LexFault}
use Rattle.rb_lexer.specs.declared.mode.Mode.{Mode}
use Rattle.rb_lexer.specs.Integer.{number_of}
use Rattle.rb_lexer.specs.Lexeme.{Lexeme, int, keyword, identifier, label, constant, field, global, symbol, constant_symbol, mark}
use Rattle.rb_lexer.specs.Newlines.{is_newline, drops_newline, closing_next, without_dropped}
use Rattle.rb_lexer.specs.Spans.{EndsOnce, IsNaturalKind, IsNatural, NotEmpty}
use Rattle.rb_lexer.specs.Tokens.{Outcome, behind, token_at, settled, Answers, Lexes, too_large, not_utf8, read, Reads, end, blank, comment, line_end, lexeme, text, code_end, too_wide, joined, nothing, code_open, text_end, part, code, bad_escape, text_open, escape_open}
use Rattle.rb_lexer.proofs.OneKind.{begins_token, lexeme-begins}

abbrev is_end : TokenKind → Bool
is_end kind.End = true
is_end k = false

not-end : (k : TokenKind) → is_end k ≡ false → k ≢ kind.End
not-end k n e = both_ways (is_end k) n (ap is_end e)

-- what each token of a source is
abbrev Sound : Token → Type 0
Sound t = IsNatural t × NotEmpty t

-- tokens that end once, each of which is sound
abbrev IsWhole : Outcome → Type 0
IsWhole (Ok tokens) = EndsOnce tokens × AllByRecursion Sound tokens
IsWhole (Err f) = Unit {0}

ends-behind : (t : Token) (tokens : List Token) → t.kind ≢ kind.End → EndsOnce tokens → EndsOnce (t ∷ tokens)
ends-behind t [] n e = absurd e
ends-behind t (u ∷ us) n e = (n, e)

-- a token of some bytes before an outcome
whole-behind : (k : TokenKind) (at n : ℕ) (spaced : Bool) (o : Outcome) → is_end k ≡ false → IsNaturalKind k → 0 < n → IsWhole o → IsWhole (behind (token_at k at n spaced) o)
whole-behind k at n spaced (Ok tokens) e i l w = (ends-behind (token_at k at n spaced) tokens (not-end k e) w.0, ((i, λ _. omega arith), w.1))
whole-behind k at n spaced (Err f) e i l w = tt

some-token : (bytes : List ℕ) → begins_token bytes ≡ true → 0 < length bytes
some-token [] h = absurd (both_ways (begins_token []) refl h)
some-token (b ∷ bs) h = omega arith

lexeme-no_end : {rest bytes : List ℕ} {k : TokenKind} → Lexeme rest bytes k → is_end k ≡ false
lexeme-no_end (int i) = refl
lexeme-no_end (keyword word i) = refl
lexeme-no_end (identifier i n) = refl
lexeme-no_end (label i n) = refl
lexeme-no_end (constant i) = refl
lexeme-no_end (field i) = refl
lexeme-no_end (global i) = refl
lexeme-no_end (symbol i) = refl
lexeme-no_end (constant_symbol i) = refl
lexeme-no_end (mark m) = refl

pos-natural : (n : ℕ) → pos 0 ≤ℤ pos n
pos-natural n = record { le = le→leb 0 n (omega arith) }

lexeme-natural : {rest bytes : List ℕ} {k : TokenKind} → Lexeme rest bytes k → IsNaturalKind k
lexeme-natural (int {bytes = bs} i) = pos-natural (number_of bs)
lexeme-natural (keyword word i) = tt
lexeme-natural (identifier i n) = tt
lexeme-natural (label i n) = tt
lexeme-natural (constant i) = tt
lexeme-natural (field i) = tt
lexeme-natural (global i) = tt
lexeme-natural (symbol i) = tt
lexeme-natural (constant_symbol i) = tt
lexeme-natural (mark m) = tt

reads-whole : {modes : List Mode} {at : ℕ} {spaced : Bool} {source : List ℕ} {o : Outcome} → Reads modes at spaced source o → IsWhole o
reads-whole end = (refl, ((tt, λ n. absurd (n refl)), tt))
reads-whole (blank h t) = reads-whole t
reads-whole (comment c t) = reads-whole t
reads-whole {at = n} {spaced = s} (line_end {o = o} h t) = whole-behind kind.Newline n 1 s o refl tt (omega arith) (reads-whole t)
reads-whole {at = n} {spaced = s} (lexeme {bytes = b} {k = k} {o = o} l m e t) =
    whole-behind k n (length b) s o (lexeme-no_end l.lexeme) (lexeme-natural l.lexeme) (some-token b (lexeme-begins l.lexeme)) (reads-whole t)
reads-whole {at = n} {spaced = s} (text q {o = o} t) = whole-behind kind.TextOpen n 1 s o refl tt (omega arith) (reads-whole t)
reads-whole {at = n} {spaced = s} (code_end {o = o} t) = whole-behind kind.CodeClose n 1 s o refl tt (omega arith) (reads-whole t)
reads-whole (too_wide l h) = tt
reads-whole (joined l h j) = tt
reads-whole (nothing h) = tt
reads-whole code_open = tt
reads-whole {at = n} (text_end {o = o} t) = whole-behind kind.TextClose n 1 false o refl tt (omega arith) (reads-whole t)
reads-whole {at = n} (part {b = b} {source = s} {text = w} {o = o} d t) = whole-behind (kind.TextPiece w) n (length (b ∷ s)) false o refl tt (omega arith) (reads-whole t)
reads-whole {at = n} (code {o = o} t) = whole-behind kind.CodeOpen n 2 false o refl tt (omega arith) (reads-whole t)
reads-whole (bad_escape h) = tt
reads-whole text_open = tt
reads-whole escape_open = tt

each-step : (P : Token → Type 0) (n d c : Bool) (t : Token) (xs ys : List Token) → P t → AllByRecursion P xs → AllByRecursion P ys → AllByRecursion P (cond n (cond d xs (cond c xs (t ∷ xs))) (t ∷ ys))
each-step P true true c t xs ys p x y = x
each-step P true false true t xs ys p x y = x
each-step P true false false t xs ys p x y = (p, x)
each-step P false d c t xs ys p x y = (p, y)

-- what each token is stays so without the line feeds that are dropped
dropped-each : (P : Token → Type 0) (dropping : Bool) (tokens : List Token) → AllByRecursion P tokens → AllByRecursion P (without_dropped dropping tokens)
dropped-each P dropping [] a = tt
dropped-each P dropping (t ∷ ts) a =
    each-step P (is_newline t.kind) dropping (closing_next ts) t (without_dropped true ts) (without_dropped (drops_newline t.kind) ts) a.0 (dropped-each P true ts a.1)
    (dropped-each P (drops_newline t.kind) ts a.1)

ends-step : (n d c : Bool) (t : Token) (xs ys : List Token) → t.kind ≢ kind.End → EndsOnce xs → EndsOnce ys → EndsOnce (cond n (cond d xs (cond c xs (t ∷ xs))) (t ∷ ys))
ends-step true true c t xs ys e x y = x
ends-step true false true t xs ys e x y = x
ends-step true false false t xs ys e x y = ends-behind t xs e x
ends-step false d c t xs ys e x y = ends-behind t ys e y

-- the end is no line feed that is dropped
dropped-ends : (dropping : Bool) (tokens : List Token) → EndsOnce tokens → EndsOnce (without_dropped dropping tokens)
dropped-ends dropping [] e = absurd e
dropped-ends dropping (t ∷ []) e =
    subst (λ (n : Bool). EndsOnce (cond n (cond dropping [] (cond false [] (t ∷ []))) (t ∷ []))) (sym (ap is_newline e)) e
dropped-ends dropping (t ∷ u ∷ ts) e =
    ends-step (is_newline t.kind) dropping (closing_next (u ∷ ts)) t (without_dropped true (u ∷ ts)) (without_dropped (drops_newline t.kind) (u ∷ ts)) e.0 (dropped-ends true (u ∷ ts) e.1)
    (dropped-ends (drops_newline t.kind) (u ∷ ts) e.1)

settled-whole : (o : Outcome) → IsWhole o → IsWhole (settled o)
settled-whole (Ok tokens) w = (dropped-ends true tokens w.0, dropped-each Sound true tokens w.1)
settled-whole (Err f) w = tt

lexes-whole : {source : List ℕ} {o : Outcome} → Lexes source o → IsWhole o
lexes-whole (too_large h) = tt
lexes-whole (not_utf8 l v h) = tt
lexes-whole (read {o = o} l u r) = settled-whole o (reads-whole r)

each-natural : (tokens : List Token) → AllByRecursion Sound tokens → AllByRecursion IsNatural tokens
each-natural [] a = tt
each-natural (t ∷ ts) a = (a.0.0, each-natural ts a.1)

each-not_empty : (tokens : List Token) → AllByRecursion Sound tokens → AllByRecursion NotEmpty tokens
each-not_empty [] a = tt
each-not_empty (t ∷ ts) a = (a.0.1, each-not_empty ts a.1)

pub answers-ends : (source : List ℕ) (r : Result (Vec Token Global) LexFault) → Answers (Lexes source) r → IfOk r (λ tokens. EndsOnce tokens.items)
answers-ends source (Ok tokens) h = (lexes-whole h).0
answers-ends source (Err f) h = tt

pub answers-natural : (source : List ℕ) (r : Result (Vec Token Global) LexFault) → Answers (Lexes source) r → IfOk r (λ tokens. AllByRecursion IsNatural tokens.items)
answers-natural source (Ok tokens) h = each-natural tokens.items (lexes-whole h).1
answers-natural source (Err f) h = tt

pub answers-not_empty : (source : List ℕ) (r : Result (Vec Token Global) LexFault) → Answers (Lexes source) r → IfOk r (λ tokens. AllByRecursion NotEmpty tokens.items)
answers-not_empty source (Ok tokens) h = each-not_empty tokens.items (lexes-whole h).1
answers-not_empty source (Err f) h = tt
