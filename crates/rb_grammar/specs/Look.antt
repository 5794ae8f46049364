-- What a rule of the grammar sees of a token: its class, and whether white space or a comment stands directly before it.
use Rattle.std.specs.Prelude.{ℕ, Bool, false, ◌&&◌, ◌||◌, not, nat_eq, List, [], ◌∷◌, codes, if◌then◌else◌}
use Rattle.std.specs.List.{ends_with, list_any}
use Rattle.std.specs.Str.{bytes_eq}
use Rattle.rb_lexer.specs.declared.token.TokenKind.{TokenKind}
use Rattle.rb_lexer.specs.declared.token.TokenKind.TheVariants as kind
use Rattle.rb_lexer.specs.declared.token.Keyword.{Keyword}
use Rattle.rb_lexer.specs.declared.token.Keyword.TheVariants as keyword
use Rattle.rb_lexer.specs.declared.token.Mark.{Mark}
use Rattle.rb_lexer.specs.declared.token.Mark.TheVariants as mark

-- A token without its text and value. Identifiers are told apart by what the grammar asks of them: `marked` ends in `?` or
-- `!`, `attribute` is `attr_reader`, `attr_writer` or `attr_accessor`, `new` is that very word, and `word` is any other.
pub data Class : Type 0 where
  line int word marked attribute new constant field global symbol label text_open text_piece code_open : Class
  code_close text_close end : Class
  class_word def_word end_word if_word elsif_word else_word unless_word while_word until_word then_word : Class
  do_word return_word break_word next_word self_word true_word false_word nil_word reserved : Class
  comma open_paren open_bracket open_brace dot assign plus_assign minus_assign times_assign over_assign : Class
  modulo_assign or_assign and_assign question colon bang and_and or_or arrow equal not_equal less : Class
  less_equal greater greater_equal shift_left plus minus times over modulo bar close_paren close_bracket : Class
  close_brace : Class

-- the words that make methods of fields
abbrev pub attribute_words : List (List ℕ)
attribute_words = codes "attr_reader" ∷ codes "attr_writer" ∷ codes "attr_accessor" ∷ []

-- whether an identifier ends in `?` or `!`
abbrev pub is_marked : List ℕ → Bool
is_marked text = ends_with nat_eq text (codes "?") || ends_with nat_eq text (codes "!")

-- the class of an identifier
abbrev pub class_of_identifier : List ℕ → Class
class_of_identifier text =
    if is_marked text then marked
    else if list_any (bytes_eq text) attribute_words then attribute
    else if bytes_eq text (codes "new") then new
    else word

-- the class of a keyword; no rule has those that are reserved
abbrev pub class_of_keyword : Keyword → Class
class_of_keyword keyword.Class = class_word
class_of_keyword keyword.Def = def_word
class_of_keyword keyword.End = end_word
class_of_keyword keyword.If = if_word
class_of_keyword keyword.Elsif = elsif_word
class_of_keyword keyword.Else = else_word
class_of_keyword keyword.Unless = unless_word
class_of_keyword keyword.While = while_word
class_of_keyword keyword.Until = until_word
class_of_keyword keyword.Then = then_word
class_of_keyword keyword.Do = do_word
class_of_keyword keyword.Return = return_word
class_of_keyword keyword.Break = break_word
class_of_keyword keyword.Next = next_word
class_of_keyword keyword.SelfRef = self_word
class_of_keyword keyword.True = true_word
class_of_keyword keyword.False = false_word
class_of_keyword keyword.Nil = nil_word
class_of_keyword other = reserved

-- the class of a mark
abbrev pub class_of_mark : Mark → Class
class_of_mark mark.Comma = comma
class_of_mark mark.OpenParen = open_paren
class_of_mark mark.OpenBracket = open_bracket
class_of_mark mark.OpenBrace = open_brace
class_of_mark mark.Dot = dot
class_of_mark mark.Assign = assign
class_of_mark mark.PlusAssign = plus_assign
class_of_mark mark.MinusAssign = minus_assign
class_of_mark mark.TimesAssign = times_assign
class_of_mark mark.OverAssign = over_assign
class_of_mark mark.ModuloAssign = modulo_assign
class_of_mark mark.OrAssign = or_assign
class_of_mark mark.AndAssign = and_assign
class_of_mark mark.Question = question
class_of_mark mark.Colon = colon
class_of_mark mark.Not = bang
class_of_mark mark.AndAnd = and_and
class_of_mark mark.OrOr = or_or
class_of_mark mark.Arrow = arrow
class_of_mark mark.Equal = equal
class_of_mark mark.NotEqual = not_equal
class_of_mark mark.Less = less
class_of_mark mark.LessEqual = less_equal
class_of_mark mark.Greater = greater
class_of_mark mark.GreaterEqual = greater_equal
class_of_mark mark.ShiftLeft = shift_left
class_of_mark mark.Plus = plus
class_of_mark mark.Minus = minus
class_of_mark mark.Times = times
class_of_mark mark.Over = over
class_of_mark mark.Modulo = modulo
class_of_mark mark.Bar = bar
class_of_mark mark.CloseParen = close_paren
class_of_mark mark.CloseBracket = close_bracket
class_of_mark mark.CloseBrace = close_brace

-- the class of a token of this kind
abbrev pub class_of : TokenKind → Class
class_of kind.Newline = line
class_of (kind.Int n) = int
class_of (kind.Ident text) = class_of_identifier text
class_of (kind.Const text) = constant
class_of (kind.Field text) = field
class_of (kind.Global text) = global
class_of (kind.Symbol text) = symbol
class_of (kind.Label text) = label
class_of (kind.Keyword k) = class_of_keyword k
class_of kind.TextOpen = text_open
class_of (kind.TextPiece text) = text_piece
class_of kind.CodeOpen = code_open
class_of kind.CodeClose = code_close
class_of kind.TextClose = text_close
class_of (kind.Mark m) = class_of_mark m
class_of kind.End = end

-- each class has a number of its own, by which two are compared
abbrev pub number : Class → ℕ
number line = 0
number int = 1
number word = 2
number marked = 3
number attribute = 4
number new = 5
number constant = 6
number field = 7
number global = 8
number symbol = 9
number label = 10
number text_open = 11
number text_piece = 12
number code_open = 13
number code_close = 14
number text_close = 15
number end = 16
number class_word = 17
number def_word = 18
number end_word = 19
number if_word = 20
number elsif_word = 21
number else_word = 22
number unless_word = 23
number while_word = 24
number until_word = 25
number then_word = 26
number do_word = 27
number return_word = 28
number break_word = 29
number next_word = 30
number self_word = 31
number true_word = 32
number false_word = 33
number nil_word = 34
number reserved = 35
number comma = 36
number open_paren = 37
number open_bracket = 38
number open_brace = 39
number dot = 40
number assign = 41
number plus_assign = 42
number minus_assign = 43
number times_assign = 44
number over_assign = 45
number modulo_assign = 46
number or_assign = 47
number and_assign = 48
number question = 49
number colon = 50
number bang = 51
number and_and = 52
number or_or = 53
number arrow = 54
number equal = 55
number not_equal = 56
number less = 57
number less_equal = 58
number greater = 59
number greater_equal = 60
number shift_left = 61
number plus = 62
number minus = 63
number times = 64
number over = 65
number modulo = 66
number bar = 67
number close_paren = 68
number close_bracket = 69
number close_brace = 70

-- a test of a token, by its class and whether it is spaced
abbrev pub Test : Type 0
Test = Class → Bool → Bool

-- a token of this class
abbrev pub is : Class → Test
is wanted class spaced = nat_eq (number wanted) (number class)

-- a token of one of these classes
abbrev pub one_of : List Class → Test
one_of [] class spaced = false
one_of (wanted ∷ more) class spaced = is wanted class spaced || one_of more class spaced

-- a token of this class that is not spaced
abbrev pub glued : Class → Test
glued wanted class spaced = is wanted class spaced && not spaced

-- a token of any other kind
abbrev pub other_than : Test → Test
other_than test class spaced = not (test class spaced)
