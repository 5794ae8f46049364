-- Which line feeds are tokens.
use Rattle.std.specs.Prelude.{Bool, true, false, not, if◌then◌else◌, List, [], ◌∷◌}
use Rattle.rb_lexer.specs.declared.token.Token.{Token}
use Rattle.rb_lexer.specs.declared.token.TokenKind.{TokenKind}
use Rattle.rb_lexer.specs.declared.token.TokenKind.TheVariants as kind
use Rattle.rb_lexer.specs.Mark.{is_closing}

abbrev pub is_newline : TokenKind → Bool
is_newline kind.Newline = true
is_newline k = false

-- Whether a line feed directly behind this token is dropped: behind a line feed, behind a label, where code in a text opens,
-- and behind a mark that closes nothing.
abbrev pub drops_newline : TokenKind → Bool
drops_newline kind.Newline = true
drops_newline (kind.Label name) = true
drops_newline kind.CodeOpen = true
drops_newline (kind.Mark m) = not (is_closing m)
drops_newline k = false

-- whether the next token that is no line feed closes a bracket or code in a text
abbrev pub closing_next : List Token → Bool
closing_next [] = false
closing_next (t ∷ ts) = closing_kind t.kind (closing_next ts)
  where
    closing_kind : TokenKind → Bool → Bool
    closing_kind kind.Newline later = later
    closing_kind kind.CodeClose later = true
    closing_kind (kind.Mark m) later = is_closing m
    closing_kind k later = false

-- the tokens without the line feeds that are dropped; the first argument tells whether one at the front is
abbrev pub without_dropped : Bool → List Token → List Token
without_dropped dropping [] = []
without_dropped dropping (t ∷ ts) =
    if is_newline t.kind
    then (if dropping then without_dropped true ts else (if closing_next ts then without_dropped true ts else t ∷ without_dropped true ts))
    else t ∷ without_dropped (drops_newline t.kind) ts
