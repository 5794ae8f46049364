-- The refusals of sources: their numbers, their names, and the places that they tell.
use Rattle.std.specs.Prelude.{ℕ, List, Option, Some, None, codes}
use Rattle.rb_lexer.specs.declared.fault.LexFault.TheVariants as lex
use Rattle.rb_cursor.specs.declared.fault.ParseFault.TheVariants as parse
use Rattle.rb_checker.specs.declared.fault.CheckFault.TheVariants as check
use Rattle.rb_prog.specs.declared.refusal.Refusal.{Refusal}
use Rattle.rb_prog.specs.declared.refusal.Refusal.TheVariants.{Unread, Unparsed, Broken}

-- the number; want of memory is no refusal
abbrev pub number : Refusal → ℕ
number (Unread (lex.NotUtf8 at)) = 1
number (Unread (lex.BadCharacter at)) = 2
number (Unread (lex.UnclosedText at)) = 3
number (Unread (lex.BadEscape at)) = 4
number (Unread (lex.IntegerTooWide at)) = 5
number (Unread lex.TooLarge) = 6
number (Unread lex.Memory) = 0
number (Unparsed (parse.Syntax at)) = 7
number (Unparsed (parse.TooNested at)) = 8
number (Unparsed parse.Memory) = 0
number (Broken (check.UnknownName at)) = 9
number (Broken (check.UnknownClass at)) = 10
number (Broken (check.TwiceDefined at)) = 11
number (Broken (check.UnsettledCapture at)) = 12
number (Broken (check.TooManyFields at)) = 13
number (Broken (check.TooManyClasses at)) = 14
number (Broken (check.BreakOutside at)) = 15
number (Broken (check.SelfOutside at)) = 16

-- the name
abbrev pub name : Refusal → List ℕ
name (Unread (lex.NotUtf8 at)) = codes "NotUtf8"
name (Unread (lex.BadCharacter at)) = codes "BadCharacter"
name (Unread (lex.UnclosedText at)) = codes "UnclosedText"
name (Unread (lex.BadEscape at)) = codes "BadEscape"
name (Unread (lex.IntegerTooWide at)) = codes "IntegerTooWide"
name (Unread lex.TooLarge) = codes "TooLarge"
name (Unread lex.Memory) = codes "Memory"
name (Unparsed (parse.Syntax at)) = codes "Syntax"
name (Unparsed (parse.TooNested at)) = codes "TooNested"
name (Unparsed parse.Memory) = codes "Memory"
name (Broken (check.UnknownName at)) = codes "UnknownName"
name (Broken (check.UnknownClass at)) = codes "UnknownClass"
name (Broken (check.TwiceDefined at)) = codes "TwiceDefined"
name (Broken (check.UnsettledCapture at)) = codes "UnsettledCapture"
name (Broken (check.TooManyFields at)) = codes "TooManyFields"
name (Broken (check.TooManyClasses at)) = codes "TooManyClasses"
name (Broken (check.BreakOutside at)) = codes "BreakOutside"
name (Broken (check.SelfOutside at)) = codes "SelfOutside"

-- the byte of the source that is told, where there is one
abbrev pub place : Refusal → Option ℕ
place (Unread (lex.NotUtf8 at)) = Some at
place (Unread (lex.BadCharacter at)) = Some at
place (Unread (lex.UnclosedText at)) = Some at
place (Unread (lex.BadEscape at)) = Some at
place (Unread (lex.IntegerTooWide at)) = Some at
place (Unread lex.TooLarge) = None
place (Unread lex.Memory) = None
place (Unparsed (parse.Syntax at)) = Some at
place (Unparsed (parse.TooNested at)) = Some at
place (Unparsed parse.Memory) = None
place (Broken (check.UnknownName at)) = Some at.from
place (Broken (check.UnknownClass at)) = Some at.from
place (Broken (check.TwiceDefined at)) = Some at.from
place (Broken (check.UnsettledCapture at)) = Some at.from
place (Broken (check.TooManyFields at)) = Some at.from
place (Broken (check.TooManyClasses at)) = Some at.from
place (Broken (check.BreakOutside at)) = Some at.from
place (Broken (check.SelfOutside at)) = Some at.from
