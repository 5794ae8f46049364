-- Tokens that come one by one, and the line feeds among them.
use Rattle.std.specs.Prelude.{Bool, true, false, if◌then◌else◌, List, ◌∷◌, ◌++◌}
use Rattle.rb_lexer.specs.declared.token.Token.{Token}
use Rattle.rb_lexer.specs.declared.token.TokenKind.{TokenKind}
use Rattle.rb_lexer.specs.declared.token.TokenKind.TheVariants as kind
use Rattle.rb_lexer.specs.declared.newline.Next.{Next}
use Rattle.rb_lexer.specs.declared.newline.Next.TheVariants.{Dropped, Stays, Waits}
use Rattle.rb_lexer.specs.declared.newline.Lines.{Lines}
use Rattle.rb_lexer.specs.Mark.{is_closing}
use Rattle.rb_lexer.specs.Newlines.{closing_next, without_dropped}

-- whether a token closes a bracket or code in a text
abbrev pub is_closing_kind : TokenKind → Bool
is_closing_kind kind.CodeClose = true
is_closing_kind (kind.Mark m) = is_closing m
is_closing_kind k = false

-- what becomes of a line feed directly behind a token that is none
abbrev pub next_behind : TokenKind → Next
next_behind (kind.Label name) = Dropped
next_behind kind.CodeOpen = Dropped
next_behind (kind.Mark m) = if is_closing m then Stays else Dropped
next_behind k = Stays

-- what later tokens add
abbrev pub added_by : Next → List Token → List Token
added_by Dropped later = without_dropped true later
added_by Stays later = without_dropped false later
added_by (Waits newline) later = if closing_next later then without_dropped true later else newline ∷ without_dropped true later

-- the tokens that there are once later ones came
abbrev pub lines_of : Lines → List Token → List Token
lines_of lines later = lines.tokens.items ++ added_by lines.next later
