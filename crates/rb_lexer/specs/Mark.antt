-- Marks.
use Rattle.std.specs.Prelude.{ℕ, Bool, true, false, List, codes}
use Rattle.rb_lexer.specs.declared.token.Mark.{Mark}
use Rattle.rb_lexer.specs.declared.token.Mark.TheVariants as mark

-- how a mark is written
abbrev pub mark_text : Mark → List ℕ
mark_text mark.Comma = codes ","
mark_text mark.OpenParen = codes "("
mark_text mark.OpenBracket = codes "["
mark_text mark.OpenBrace = codes "{"
mark_text mark.Dot = codes "."
mark_text mark.Assign = codes "="
mark_text mark.PlusAssign = codes "+="
mark_text mark.MinusAssign = codes "-="
mark_text mark.TimesAssign = codes "*="
mark_text mark.OverAssign = codes "/="
mark_text mark.ModuloAssign = codes "%="
mark_text mark.OrAssign = codes "||="
mark_text mark.AndAssign = codes "&&="
mark_text mark.Question = codes "?"
mark_text mark.Colon = codes ":"
mark_text mark.Not = codes "!"
mark_text mark.AndAnd = codes "&&"
mark_text mark.OrOr = codes "||"
mark_text mark.Arrow = codes "=>"
mark_text mark.Equal = codes "=="
mark_text mark.NotEqual = codes "!="
mark_text mark.Less = codes "<"
mark_text mark.LessEqual = codes "<="
mark_text mark.Greater = codes ">"
mark_text mark.GreaterEqual = codes ">="
mark_text mark.ShiftLeft = codes "<<"
mark_text mark.Plus = codes "+"
mark_text mark.Minus = codes "-"
mark_text mark.Times = codes "*"
mark_text mark.Over = codes "/"
mark_text mark.Modulo = codes "%"
mark_text mark.Bar = codes "|"
mark_text mark.CloseParen = codes ")"
mark_text mark.CloseBracket = codes "]"
mark_text mark.CloseBrace = codes "}"

-- whether a mark closes what another one opened
abbrev pub is_closing : Mark → Bool
is_closing mark.CloseParen = true
is_closing mark.CloseBracket = true
is_closing mark.CloseBrace = true
is_closing m = false
