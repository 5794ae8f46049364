-- The tokens of a source are words where they are identifiers or symbols.
use Rattle.std.proofs.Common.{◌≡◌, refl, ℕ, Bool, true, false, cond, List, [], ◌∷◌, ◌++◌, length, Ok, Err}
use Rattle.std.specs.Prelude.{◌||◌}
use Rattle.std.specs.List.{AllByRecursion}
use Rattle.rb_lexer.specs.declared.token.Token.{Token}
use Rattle.rb_lexer.specs.declared.token.TokenKind.{TokenKind}
use Rattle.rb_lexer.specs.declared.token.TokenKind.TheVariants as kind
use Rattle.rb_lexer.specs.Character.{is_lower, is_upper, is_digit}
use Rattle.rb_lexer.specs.Word.{IsPlainName, IsIdentifier, plain, marked, IsConstant}
use Rattle.rb_lexer.specs.Lexeme.{Lexeme, int, keyword, identifier, label, constant, field, global, symbol, constant_symbol, mark}
use Rattle.rb_lexer.specs.Newlines.{is_newline, drops_newline, closing_next, without_dropped}
use Rattle.rb_lexer.specs.Tokens.{Outcome, behind, token_at, settled, Lexes, too_large, not_utf8, read, Reads, end, blank, comment, line_end, lexeme, text, code_end, too_wide, joined, nothing, code_open, text_end, part, code, bad_escape, text_open, escape_open}
use Rattle.rb_accepted.specs.Coded.{begins_word}
use Rattle.rb_accepted.specs.Laws.{IsWordKind, IsWord, LexedAreWords}

-- ---- what a word begins with

from_lower : (l u d s : Bool) → (l || s) ≡ true → (l || u || d || s) ≡ true
from_lower true u d s h = refl
from_lower false true d s h = refl
from_lower false false true s h = refl
from_lower false false false s h = h

from_upper : (l u d s : Bool) → u ≡ true → (l || u || d || s) ≡ true
from_upper true u d s h = refl
from_upper false true d s h = refl
from_upper false false d s h = absurd (cc)

plain_begins : (name : List ℕ) → IsPlainName name → begins_word name ≡ true
plain_begins [] h = absurd h
plain_begins (b ∷ bs) h = from_lower (is_lower b) (is_upper b) (is_digit b) _ h.0

-- with a mark behind it too
marked_begins : (name : List ℕ) (last : ℕ) → IsPlainName name → begins_word (name ++ last ∷ []) ≡ true
marked_begins [] last h = absurd h
marked_begins (b ∷ bs) last h = plain_begins (b ∷ bs) h

identifier_begins : {rest name : List ℕ} → IsIdentifier rest name → begins_word name ≡ true
identifier_begins (plain {name = name} h) = plain_begins name h
identifier_begins (marked name last h m e) = marked_begins name last h

constant_begins : (name : List ℕ) → IsConstant name → begins_word name ≡ true
constant_begins [] h = absurd h
constant_begins (b ∷ bs) h = from_upper (is_lower b) (is_upper b) (is_digit b) _ h.0

lexeme_word : {rest bytes : List ℕ} {k : TokenKind} → Lexeme rest bytes k → IsWordKind k
lexeme_word (int i) = tt
lexeme_word (keyword word i) = tt
lexeme_word (identifier i n) = identifier_begins i
lexeme_word (label i n) = tt
lexeme_word (constant i) = tt
lexeme_word (field i) = tt
lexeme_word (global i) = tt
lexeme_word (symbol i) = identifier_begins i
lexeme_word (constant_symbol {name = name} i) = constant_begins name i
lexeme_word (mark m) = tt

-- ---- the tokens of a source

abbrev AreWords : Outcome → Type 0
AreWords (Ok tokens) = AllByRecursion IsWord tokens
AreWords (Err f) = Unit {0}

words_behind : (k : TokenKind) (at n : ℕ) (spaced : Bool) (o : Outcome) → IsWordKind k → AreWords o → AreWords (behind (token_at k at n spaced) o)
words_behind k at n spaced (Ok tokens) is w = (is, w)
words_behind k at n spaced (Err f) is w = tt

reads_words : {modes : _} {at : ℕ} {spaced : Bool} {source : List ℕ} {o : Outcome} → Reads modes at spaced source o → AreWords o
reads_words end = (tt, tt)
reads_words (blank h t) = reads_words t
reads_words (comment c t) = reads_words t
reads_words {at = n} {spaced = s} (line_end {o = o} h t) = words_behind kind.Newline n 1 s o tt (reads_words t)
reads_words {at = n} {spaced = s} (lexeme {bytes = b} {k = k} {o = o} l m e t) = words_behind k n (length b) s o (lexeme_word l.lexeme) (reads_words t)
reads_words {at = n} {spaced = s} (text q {o = o} t) = words_behind kind.TextOpen n 1 s o tt (reads_words t)
reads_words {at = n} {spaced = s} (code_end {o = o} t) = words_behind kind.CodeClose n 1 s o tt (reads_words t)
reads_words (too_wide l h) = tt
reads_words (joined l h j) = tt
reads_words (nothing h) = tt
reads_words code_open = tt
reads_words {at = n} (text_end {o = o} t) = words_behind kind.TextClose n 1 false o tt (reads_words t)
reads_words {at = n} (part {b = b} {source = s} {text = w} {o = o} d t) = words_behind (kind.TextPiece w) n (length (b ∷ s)) false o tt (reads_words t)
reads_words {at = n} (code {o = o} t) = words_behind kind.CodeOpen n 2 false o tt (reads_words t)
reads_words (bad_escape h) = tt
reads_words text_open = tt
reads_words escape_open = tt

-- without the line feeds that are dropped
words_step : (n d c : Bool) (t : Token) (xs ys : List Token) → IsWord t → AllByRecursion IsWord xs → AllByRecursion IsWord ys
    → AllByRecursion IsWord (cond n (cond d xs (cond c xs (t ∷ xs))) (t ∷ ys))
words_step true true c t xs ys p x y = x
words_step true false true t xs ys p x y = x
words_step true false false t xs ys p x y = (p, x)
words_step false d c t xs ys p x y = (p, y)

dropped_words : (dropping : Bool) (tokens : List Token) → AllByRecursion IsWord tokens → AllByRecursion IsWord (without_dropped dropping tokens)
dropped_words dropping [] a = tt
dropped_words dropping (t ∷ ts) a =
    words_step (is_newline t.kind) dropping (closing_next ts) t (without_dropped true ts) (without_dropped (drops_newline t.kind) ts) a.0
    (dropped_words true ts a.1) (dropped_words (drops_newline t.kind) ts a.1)

settled_words : (o : Outcome) → AreWords o → AreWords (settled o)
settled_words (Ok tokens) w = dropped_words true tokens w
settled_words (Err f) w = tt

lexes_words : {source : List ℕ} {o : Outcome} → Lexes source o → AreWords o
lexes_words (too_large h) = tt
lexes_words (not_utf8 l v h) = tt
lexes_words (read {o = o} l u r) = settled_words o (reads_words r)

pub lexed_are_words : LexedAreWords
lexed_are_words source tokens h = lexes_words h
