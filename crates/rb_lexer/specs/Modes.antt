-- Where reading stands: in code with open braces, or in a text. The innermost comes first; code lies below all.
use Rattle.std.specs.Prelude.{ℕ, zero, suc, ◌+◌, Bool, true, false, List, [], ◌∷◌}
use Rattle.rb_lexer.specs.declared.token.TokenKind.{TokenKind}
use Rattle.rb_lexer.specs.declared.token.TokenKind.TheVariants as kind
use Rattle.rb_lexer.specs.declared.token.Mark.TheVariants as mark
use Rattle.rb_lexer.specs.declared.mode.Mode.{Mode}
use Rattle.rb_lexer.specs.declared.mode.Mode.TheVariants.{Code, Text}

-- whether a `}` in code here ends code that stands in a text
abbrev pub ends_code : ℕ → List Mode → Bool
ends_code braces [] = false
ends_code zero (m ∷ below) = true
ends_code (suc braces) (m ∷ below) = false

-- the open braces behind a token
abbrev pub braces_after : TokenKind → ℕ → ℕ
braces_after (kind.Mark mark.OpenBrace) braces = braces + 1
braces_after (kind.Mark mark.CloseBrace) zero = zero
braces_after (kind.Mark mark.CloseBrace) (suc braces) = braces
braces_after k braces = braces

-- the place of the outermost text that is open
abbrev pub open_text_from : ℕ → List Mode → ℕ
open_text_from at [] = at
open_text_from at (Code braces ∷ below) = open_text_from at below
open_text_from at (Text q p ∷ below) = open_text_from p below

abbrev pub open_text : List Mode → ℕ
open_text modes = open_text_from 0 modes
