-- Comparing classes.
use Rattle.std.proofs.Common.{◌≡◌, ◌≤◌, Bool, nat_eq, List, [], ◌∷◌, length, refl, sym, ap, ◌∙◌, arith}
use Rattle.std.proofs.Common.{not, ◌&&◌}
use denote.Enum.Declared.{tag_of}
use Rattle.rb_lexer.specs.declared.token.Token.{Token}
use Rattle.rb_grammar.specs.Look as look
use Rattle.rb_grammar.specs.Look.{number}
use Rattle.rb_grammar.specs.Rule.{next_meets}
use Rattle.rb_grammar.specs.Heads.{next_class, next_spaced}
use Rattle.rb_cursor.specs.declared.class.Class.{Class}
use Rattle.rb_cursor.specs.declared.class.Class.TheVariants as class
use Rattle.rb_cursor.specs.contracts.class.Class.{the_type}
use Rattle.rb_cursor.specs.Class.{class_by}

-- the number that the compiler gives to a class is that of the grammar
pub number-class_by : (c : Class) → number (class_by c) ≡ tag_of the_type c
number-class_by class.Line = refl
number-class_by class.Int = refl
number-class_by class.Word = refl
number-class_by class.Marked = refl
number-class_by class.Attribute = refl
number-class_by class.New = refl
number-class_by class.Constant = refl
number-class_by class.Field = refl
number-class_by class.Global = refl
number-class_by class.Symbol = refl
number-class_by class.Label = refl
number-class_by class.TextOpen = refl
number-class_by class.TextPiece = refl
number-class_by class.CodeOpen = refl
number-class_by class.CodeClose = refl
number-class_by class.TextClose = refl
number-class_by class.End = refl
number-class_by class.ClassWord = refl
number-class_by class.DefWord = refl
number-class_by class.EndWord = refl
number-class_by class.IfWord = refl
number-class_by class.ElsifWord = refl
number-class_by class.ElseWord = refl
number-class_by class.UnlessWord = refl
number-class_by class.WhileWord = refl
number-class_by class.UntilWord = refl
number-class_by class.ThenWord = refl
number-class_by class.DoWord = refl
number-class_by class.ReturnWord = refl
number-class_by class.BreakWord = refl
number-class_by class.NextWord = refl
number-class_by class.SelfWord = refl
number-class_by class.TrueWord = refl
number-class_by class.FalseWord = refl
number-class_by class.NilWord = refl
number-class_by class.Reserved = refl
number-class_by class.Comma = refl
number-class_by class.OpenParen = refl
number-class_by class.OpenBracket = refl
number-class_by class.OpenBrace = refl
number-class_by class.Dot = refl
number-class_by class.Assign = refl
number-class_by class.PlusAssign = refl
number-class_by class.MinusAssign = refl
number-class_by class.TimesAssign = refl
number-class_by class.OverAssign = refl
number-class_by class.ModuloAssign = refl
number-class_by class.OrAssign = refl
number-class_by class.AndAssign = refl
number-class_by class.Question = refl
number-class_by class.Colon = refl
number-class_by class.Bang = refl
number-class_by class.AndAnd = refl
number-class_by class.OrOr = refl
number-class_by class.Arrow = refl
number-class_by class.Equal = refl
number-class_by class.NotEqual = refl
number-class_by class.Less = refl
number-class_by class.LessEqual = refl
number-class_by class.Greater = refl
number-class_by class.GreaterEqual = refl
number-class_by class.ShiftLeft = refl
number-class_by class.Plus = refl
number-class_by class.Minus = refl
number-class_by class.Times = refl
number-class_by class.Over = refl
number-class_by class.Modulo = refl
number-class_by class.Bar = refl
number-class_by class.CloseParen = refl
number-class_by class.CloseBracket = refl
number-class_by class.CloseBrace = refl

pub is-class : (wanted class : Class) (spaced : Bool) → look.is (class_by wanted) (class_by class) spaced ≡ nat_eq (tag_of the_type wanted) (tag_of the_type class)
is-class wanted class spaced = rw (number-class_by wanted, number-class_by class) refl

-- a test of the next token by its class
pub is-next : (wanted class : Class) (ts : List Token) → 1 ≤ length ts → class_by class ≡ next_class ts
    → nat_eq (tag_of the_type wanted) (tag_of the_type class) ≡ next_meets (look.is (class_by wanted)) ts
is-next wanted class [] h e = absurd (omega arith)
is-next wanted class (t ∷ ts) h e = sym (is-class wanted class t.spaced) ∙ ap (λ c. look.is (class_by wanted) c t.spaced) e

-- a test of the next token by its class and by whether it is spaced
pub glued-next : (wanted : look.Class) (ts : List Token) → next_meets (look.glued wanted) ts ≡ next_meets (look.is wanted) ts && not (next_spaced ts)
glued-next wanted [] = refl
glued-next wanted (t ∷ ts) = refl

pub ruleset glued_steps = (glued-next)
