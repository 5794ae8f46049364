-- The tokens of a source, or the first fault in it. The rules are those of Ruby's lexical structure that this subset has.
use Rattle.std.specs.Prelude.{◌≡◌, ◌≢◌, ℕ, zero, ◌+◌, ◌≤◌, ◌<◌, pos, Bool, true, false, ◌⊎◌, List, [], ◌∷◌, ◌++◌, length, None, Result, Ok, Err}
use Rattle.std.specs.List.{list_all}
use Rattle.std.specs.Str.{IsUtf8, IsValidUpTo}
use Rattle.std.specs.Prelude.{not, ◌==◌, Vec}
use Rattle.std.specs.declared.alloc.Global.{Global}
use Rattle.rb_lexer.specs.declared.token.Token.{Token}
use Rattle.rb_lexer.specs.declared.token.TokenKind.{TokenKind}
use Rattle.rb_lexer.specs.declared.token.TokenKind.TheVariants as kind
use Rattle.rb_lexer.specs.declared.fault.LexFault.{LexFault}
use Rattle.rb_lexer.specs.declared.fault.LexFault.TheVariants as fault
use Rattle.rb_lexer.specs.declared.mode.Quote.{Quote}
use Rattle.rb_lexer.specs.declared.mode.Quote.TheVariants as quote
use Rattle.rb_lexer.specs.Character.{is_blank, is_line_end, begins_with}
use Rattle.rb_lexer.specs.Integer.{max_integer, joins_integer}
use Rattle.rb_lexer.specs.Lexeme.{Longest, HasNoLexeme}
use Rattle.rb_lexer.specs.Part.{Part, quote_mark, escaped}
use Rattle.rb_lexer.specs.declared.mode.Mode.{Mode}
use Rattle.rb_lexer.specs.declared.mode.Mode.TheVariants.{Code, Text}
use Rattle.rb_lexer.specs.Modes.{ends_code, braces_after, open_text}
use Rattle.rb_lexer.specs.Newlines.{without_dropped}

-- the bytes a source has at most
abbrev pub max_source : ℕ
max_source = 1048576

-- a token of this kind, which stands at a place and has so many bytes
abbrev pub token_at : TokenKind → (at bytes : ℕ) → Bool → Token
token_at k at bytes spaced = record { kind = k; at = record { from = at; to = at + bytes }; spaced = spaced }

-- tokens, or a fault
abbrev pub Outcome : Type 0
Outcome = Result (List Token) LexFault

-- a token, and what comes behind it
abbrev pub behind : Token → Outcome → Outcome
behind t (Ok tokens) = Ok (t ∷ tokens)
behind t (Err f) = Err f

-- whether a token may stand before what follows it
abbrev pub MayStand : TokenKind → List ℕ → Type 0
MayStand (kind.Int (pos n)) rest = (n ≤ max_integer) × (joins_integer rest ≡ false)
MayStand k rest = Unit {0}

-- a comment: `#` and what stands behind it on its line
pub record IsComment (bytes rest : List ℕ) : Type 0 where
  pub hash : begins_with 35 bytes ≡ true
  pub line : list_all (λ b. not (b == 10)) bytes ≡ true
  pub ended : (rest ≡ []) ⊎ (begins_with 10 rest ≡ true)

-- nothing of code begins with these bytes
pub record BeginsNothing (b : ℕ) (rest : List ℕ) : Type 0 where
  pub no_blank : is_blank b ≡ false
  pub no_line_end : is_line_end b ≡ false
  pub no_comment : b ≢ 35
  pub no_text : (q : Quote) → b ≢ quote_mark q
  pub no_lexeme : HasNoLexeme (b ∷ rest)

-- How bytes read from a place on, the innermost mode first; spaced tells whether white space or a comment stands directly before them.
-- No line feed is dropped yet.
pub data Reads : List Mode → (at : ℕ) → (spaced : Bool) → List ℕ → Outcome → Type 0 where
  -- in code
  end : {braces at : ℕ} {spaced : Bool} → Reads (Code braces ∷ []) at spaced [] (Ok (token_at kind.End at 0 spaced ∷ []))
  blank : {braces at b : ℕ} {below : List Mode} {spaced : Bool} {rest : List ℕ} {o : Outcome} → is_blank b ≡ true
      → Reads (Code braces ∷ below) (at + 1) true rest o → Reads (Code braces ∷ below) at spaced (b ∷ rest) o
  comment : {braces at : ℕ} {below : List Mode} {spaced : Bool} {bytes rest : List ℕ} {o : Outcome} → IsComment bytes rest
      → Reads (Code braces ∷ below) (at + length bytes) true rest o → Reads (Code braces ∷ below) at spaced (bytes ++ rest) o
  line_end : {braces at b : ℕ} {below : List Mode} {spaced : Bool} {rest : List ℕ} {o : Outcome} → is_line_end b ≡ true
      → Reads (Code braces ∷ below) (at + 1) false rest o → Reads (Code braces ∷ below) at spaced (b ∷ rest) (behind (token_at kind.Newline at 1 spaced) o)
  lexeme : {braces at : ℕ} {below : List Mode} {spaced : Bool} {bytes rest : List ℕ} {k : TokenKind} {o : Outcome} → Longest bytes rest k → MayStand k rest
      → (begins_with 125 bytes ≡ true → ends_code braces below ≡ false)
      → Reads (Code (braces_after k braces) ∷ below) (at + length bytes) false rest o
      → Reads (Code braces ∷ below) at spaced (bytes ++ rest) (behind (token_at k at (length bytes) spaced) o)
  text : (q : Quote) {braces at : ℕ} {below : List Mode} {spaced : Bool} {rest : List ℕ} {o : Outcome}
      → Reads (Text q at ∷ Code braces ∷ below) (at + 1) false rest o
      → Reads (Code braces ∷ below) at spaced (quote_mark q ∷ rest) (behind (token_at kind.TextOpen at 1 spaced) o)
  -- the code in a text ends at the `}` that closes no brace of its own
  code_end : {at : ℕ} {m : Mode} {below : List Mode} {spaced : Bool} {rest : List ℕ} {o : Outcome} → Reads (m ∷ below) (at + 1) false rest o
      → Reads (Code zero ∷ m ∷ below) at spaced (125 ∷ rest) (behind (token_at kind.CodeClose at 1 spaced) o)
  too_wide : {braces at n : ℕ} {below : List Mode} {spaced : Bool} {bytes rest : List ℕ} → Longest bytes rest (kind.Int (pos n)) → max_integer < n
      → Reads (Code braces ∷ below) at spaced (bytes ++ rest) (Err (fault.IntegerTooWide at))
  joined : {braces at n : ℕ} {below : List Mode} {spaced : Bool} {bytes rest : List ℕ} → Longest bytes rest (kind.Int (pos n)) → n ≤ max_integer → joins_integer rest ≡ true
      → Reads (Code braces ∷ below) at spaced (bytes ++ rest) (Err (fault.BadCharacter (at + length bytes)))
  nothing : {braces at b : ℕ} {below : List Mode} {spaced : Bool} {rest : List ℕ} → BeginsNothing b rest
      → Reads (Code braces ∷ below) at spaced (b ∷ rest) (Err (fault.BadCharacter at))
  code_open : {braces at : ℕ} {m : Mode} {below : List Mode} {spaced : Bool}
      → Reads (Code braces ∷ m ∷ below) at spaced [] (Err (fault.UnclosedText (open_text (Code braces ∷ m ∷ below))))
  -- in a text
  text_end : {q : Quote} {p at : ℕ} {below : List Mode} {spaced : Bool} {rest : List ℕ} {o : Outcome} → Reads below (at + 1) false rest o
      → Reads (Text q p ∷ below) at spaced (quote_mark q ∷ rest) (behind (token_at kind.TextClose at 1 false) o)
  part : {q : Quote} {p at b : ℕ} {below : List Mode} {spaced : Bool} {source rest text : List ℕ} {o : Outcome} → Part q rest (b ∷ source) text
      → Reads (Text q p ∷ below) (at + length (b ∷ source)) false rest o
      → Reads (Text q p ∷ below) at spaced (b ∷ source ++ rest) (behind (token_at (kind.TextPiece text) at (length (b ∷ source)) false) o)
  code : {p at : ℕ} {below : List Mode} {spaced : Bool} {rest : List ℕ} {o : Outcome} → Reads (Code zero ∷ Text quote.Double p ∷ below) (at + 2) false rest o
      → Reads (Text quote.Double p ∷ below) at spaced (35 ∷ 123 ∷ rest) (behind (token_at kind.CodeOpen at 2 false) o)
  bad_escape : {p at e : ℕ} {below : List Mode} {spaced : Bool} {rest : List ℕ} → escaped quote.Double e ≡ None
      → Reads (Text quote.Double p ∷ below) at spaced (92 ∷ e ∷ rest) (Err (fault.BadEscape at))
  text_open : {q : Quote} {p at : ℕ} {below : List Mode} {spaced : Bool} → Reads (Text q p ∷ below) at spaced [] (Err (fault.UnclosedText (open_text (Text q p ∷ below))))
  -- a `\` that is the last of the source begins no escape: the text has no end
  escape_open : {p at : ℕ} {below : List Mode} {spaced : Bool}
      → Reads (Text quote.Double p ∷ below) at spaced (92 ∷ []) (Err (fault.UnclosedText (open_text (Text quote.Double p ∷ below))))

-- the tokens without the line feeds that are dropped
abbrev pub settled : Outcome → Outcome
settled (Ok tokens) = Ok (without_dropped true tokens)
settled (Err f) = Err f

-- the tokens of a whole source, or its first fault
pub data Lexes (source : List ℕ) : Outcome → Type 0 where
  too_large : max_source < length source → Lexes source (Err fault.TooLarge)
  not_utf8 : {n : ℕ} → length source ≤ max_source → IsValidUpTo source n → n < length source → Lexes source (Err (fault.NotUtf8 n))
  read : {o : Outcome} → length source ≤ max_source → IsUtf8 source → Reads (Code zero ∷ []) 0 false source o → Lexes source (settled o)

-- an answer is want of memory, or an outcome for which this holds
abbrev pub Answers : (Outcome → Type 0) → Result (Vec Token Global) LexFault → Type 0
Answers P (Ok tokens) = P (Ok tokens.items)
Answers P (Err fault.Memory) = Unit {0}
Answers P (Err f) = P (Err f)
