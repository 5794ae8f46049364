-- A class that is not the one that is wanted.
use Rattle.std.proofs.Common.{◌≡◌, ℕ, Bool, false, List, [], ◌∷◌, get_or, refl, sym, ap, ◌∙◌}
use Rattle.std.proofs.lemmas.Bool.{ne_eqb}
use Rattle.rb_grammar.specs.Look as look
use Rattle.rb_grammar.specs.Look.{number}
use Rattle.rb_cursor.specs.declared.class.Class.{Class}
use Rattle.rb_cursor.specs.declared.class.Class.TheVariants as class
use Rattle.rb_cursor.specs.Class.{class_by}

-- the classes by their numbers
abbrev classes : List Class
classes =
    class.Line ∷ class.Int ∷ class.Word ∷ class.Marked ∷ class.Attribute ∷ class.New ∷ class.Constant ∷ class.Field ∷
    class.Global ∷ class.Symbol ∷ class.Label ∷ class.TextOpen ∷ class.TextPiece ∷ class.CodeOpen ∷ class.CodeClose ∷
    class.TextClose ∷ class.End ∷ class.ClassWord ∷ class.DefWord ∷ class.EndWord ∷ class.IfWord ∷ class.ElsifWord ∷
    class.ElseWord ∷ class.UnlessWord ∷ class.WhileWord ∷ class.UntilWord ∷ class.ThenWord ∷ class.DoWord ∷
    class.ReturnWord ∷ class.BreakWord ∷ class.NextWord ∷ class.SelfWord ∷ class.TrueWord ∷ class.FalseWord ∷
    class.NilWord ∷ class.Reserved ∷ class.Comma ∷ class.OpenParen ∷ class.OpenBracket ∷ class.OpenBrace ∷ class.Dot ∷
    class.Assign ∷ class.PlusAssign ∷ class.MinusAssign ∷ class.TimesAssign ∷ class.OverAssign ∷ class.ModuloAssign ∷
    class.OrAssign ∷ class.AndAssign ∷ class.Question ∷ class.Colon ∷ class.Bang ∷ class.AndAnd ∷ class.OrOr ∷
    class.Arrow ∷ class.Equal ∷ class.NotEqual ∷ class.Less ∷ class.LessEqual ∷ class.Greater ∷ class.GreaterEqual ∷
    class.ShiftLeft ∷ class.Plus ∷ class.Minus ∷ class.Times ∷ class.Over ∷ class.Modulo ∷ class.Bar ∷
    class.CloseParen ∷ class.CloseBracket ∷ class.CloseBrace ∷ []

abbrev numbered : ℕ → Class
numbered n = get_or classes n class.Line

numbered-number : (c : Class) → numbered (number (class_by c)) ≡ c
numbered-number class.Line = refl
numbered-number class.Int = refl
numbered-number class.Word = refl
numbered-number class.Marked = refl
numbered-number class.Attribute = refl
numbered-number class.New = refl
numbered-number class.Constant = refl
numbered-number class.Field = refl
numbered-number class.Global = refl
numbered-number class.Symbol = refl
numbered-number class.Label = refl
numbered-number class.TextOpen = refl
numbered-number class.TextPiece = refl
numbered-number class.CodeOpen = refl
numbered-number class.CodeClose = refl
numbered-number class.TextClose = refl
numbered-number class.End = refl
numbered-number class.ClassWord = refl
numbered-number class.DefWord = refl
numbered-number class.EndWord = refl
numbered-number class.IfWord = refl
numbered-number class.ElsifWord = refl
numbered-number class.ElseWord = refl
numbered-number class.UnlessWord = refl
numbered-number class.WhileWord = refl
numbered-number class.UntilWord = refl
numbered-number class.ThenWord = refl
numbered-number class.DoWord = refl
numbered-number class.ReturnWord = refl
numbered-number class.BreakWord = refl
numbered-number class.NextWord = refl
numbered-number class.SelfWord = refl
numbered-number class.TrueWord = refl
numbered-number class.FalseWord = refl
numbered-number class.NilWord = refl
numbered-number class.Reserved = refl
numbered-number class.Comma = refl
numbered-number class.OpenParen = refl
numbered-number class.OpenBracket = refl
numbered-number class.OpenBrace = refl
numbered-number class.Dot = refl
numbered-number class.Assign = refl
numbered-number class.PlusAssign = refl
numbered-number class.MinusAssign = refl
numbered-number class.TimesAssign = refl
numbered-number class.OverAssign = refl
numbered-number class.ModuloAssign = refl
numbered-number class.OrAssign = refl
numbered-number class.AndAssign = refl
numbered-number class.Question = refl
numbered-number class.Colon = refl
numbered-number class.Bang = refl
numbered-number class.AndAnd = refl
numbered-number class.OrOr = refl
numbered-number class.Arrow = refl
numbered-number class.Equal = refl
numbered-number class.NotEqual = refl
numbered-number class.Less = refl
numbered-number class.LessEqual = refl
numbered-number class.Greater = refl
numbered-number class.GreaterEqual = refl
numbered-number class.ShiftLeft = refl
numbered-number class.Plus = refl
numbered-number class.Minus = refl
numbered-number class.Times = refl
numbered-number class.Over = refl
numbered-number class.Modulo = refl
numbered-number class.Bar = refl
numbered-number class.CloseParen = refl
numbered-number class.CloseBracket = refl
numbered-number class.CloseBrace = refl

pub is_other : (wanted c : Class) (spaced : Bool) → (c ≡ wanted → ⊥) → look.is (class_by wanted) (class_by c) spaced ≡ false
is_other wanted c spaced other =
    ne_eqb (number (class_by wanted)) (number (class_by c)) (λ same. other (sym (numbered-number c) ∙ ap numbered (sym same) ∙ numbered-number wanted))
