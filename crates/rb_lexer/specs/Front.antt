-- What stands at the front of code.
use Rattle.std.specs.Prelude.{◌≡◌, ℕ, ◌≤◌, ◌<◌, pos, true, List, length, take, drop}
use Rattle.rb_lexer.specs.declared.front.Found.{Found}
use Rattle.rb_lexer.specs.declared.front.Found.TheVariants as found
use Rattle.rb_lexer.specs.declared.token.TokenKind.TheVariants as kind
use Rattle.rb_lexer.specs.Integer.{max_integer, joins_integer}
use Rattle.rb_lexer.specs.Lexeme.{Longest, HasNoLexeme}
use Rattle.rb_lexer.specs.Tokens.{MayStand}

-- no token; or an integer that is too wide, or that is joined to what follows; or the longest token, of n bytes
abbrev pub IsFront : List ℕ → Found → Type 0
IsFront bytes found.Nothing = HasNoLexeme bytes
IsFront bytes found.TooWide = (n value : ℕ) × (n ≤ length bytes) × Longest (take n bytes) (drop n bytes) (kind.Int (pos value)) × (max_integer < value)
IsFront bytes (found.Joined n) =
    (value : ℕ) × (n ≤ length bytes) × Longest (take n bytes) (drop n bytes) (kind.Int (pos value)) × (value ≤ max_integer) × (joins_integer (drop n bytes) ≡ true)
IsFront bytes (found.Token k n) = (0 < n) × (n ≤ length bytes) × Longest (take n bytes) (drop n bytes) k × MayStand k (drop n bytes)
