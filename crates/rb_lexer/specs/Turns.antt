-- What one turn of reading gives.
use Rattle.std.specs.Prelude.{◌≡◌, ℕ, ◌+◌, ◌≤◌, ◌<◌, Bool, true, false, not, ◌==◌, if◌then◌else◌, List, [], ◌∷◌, length, drop, Ok, Err, Option, Some, None}
use Rattle.rb_lexer.specs.declared.token.TokenKind.TheVariants as kind
use Rattle.rb_lexer.specs.declared.mode.Quote.{Quote}
use Rattle.rb_lexer.specs.declared.mode.Quote.TheVariants as quote
use Rattle.rb_lexer.specs.declared.mode.Mode.{Mode}
use Rattle.rb_lexer.specs.declared.mode.Mode.TheVariants.{Code, Text}
use Rattle.rb_lexer.specs.declared.turn.Change.{Change}
use Rattle.rb_lexer.specs.declared.turn.Change.TheVariants.{Become, Enter, Leave}
use Rattle.rb_lexer.specs.declared.turn.Turn.{Turn}
use Rattle.rb_lexer.specs.declared.turn.Turn.TheVariants as turn
use Rattle.rb_lexer.specs.Tokens.{Outcome, Reads, behind, settled, token_at}

-- the quote that a character is
abbrev pub quote_of : ℕ → Option Quote
quote_of b = if b == 39 then Some quote.Single else (if b == 34 then Some quote.Double else None)

-- whether a comment goes on with a character
abbrev pub comment_byte : ℕ → Bool
comment_byte b = not (b == 10)

-- the modes behind a change, the innermost first
abbrev pub after : Change → List Mode → List Mode
after (Become m) [] = []
after (Become m) (top ∷ below) = m ∷ below
after (Enter m) modes = m ∷ modes
after Leave [] = []
after Leave (top ∷ below) = below

-- Modes in which reading may stand at a place: code lies below all, and no more braces are open than there are bytes before the place.
abbrev pub IsStack : ℕ → List Mode → Type 0
IsStack at [] = ⊥
IsStack at (Text q p ∷ below) = IsStack at below
IsStack at (Code braces ∷ []) = braces ≤ at
IsStack at (Code braces ∷ m ∷ below) = (braces ≤ at) × IsStack at (m ∷ below)

-- whether white space before a token counts: in a text it belongs to the text
abbrev pub spaced_in : List Mode → Bool → Bool
spaced_in [] spaced = false
spaced_in (Code braces ∷ below) spaced = spaced
spaced_in (Text q p ∷ below) spaced = false

-- a turn at the front of bytes: what is read behind it settles what is read from the front on
abbrev pub IsTurn : List Mode → (at : ℕ) → (spaced : Bool) → List ℕ → Turn → Type 0
IsTurn modes at spaced bytes (turn.Passed n) =
    (0 < n) × (n ≤ length bytes) × IsStack (at + n) modes
    × ((o : Outcome) → Reads modes (at + n) true (drop n bytes) o → Reads modes at spaced bytes o)
IsTurn modes at spaced bytes (turn.Token k n change) =
    (0 < n) × (n ≤ length bytes) × IsStack (at + n) (after change modes)
    × ((o : Outcome) → Reads (after change modes) (at + n) false (drop n bytes) o → Reads modes at spaced bytes (behind (token_at k at n (spaced_in modes spaced)) o))
IsTurn modes at spaced bytes turn.End = Reads modes at spaced bytes (Ok (token_at kind.End at 0 spaced ∷ []))
IsTurn modes at spaced bytes (turn.Refused f) = Reads modes at spaced bytes (Err f)

-- the outcome of a whole source, from which the line feeds that are dropped are gone
abbrev pub ReadsFromStart : List ℕ → Outcome → Type 0
ReadsFromStart source o = (read : Outcome) × Reads (Code 0 ∷ []) 0 false source read × (o ≡ settled read)
