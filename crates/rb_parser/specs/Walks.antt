-- What the walks over the tokens of a script come to.
use Rattle.std.specs.Prelude.{List, Result, Ok, Err}
use Rattle.rb_tree.specs.declared.node.Program.{Program}
use Rattle.rb_lexer.specs.declared.token.Token.{Token}
use Rattle.rb_grammar.specs.Tree.{Items}
use Rattle.rb_grammar.specs.Script.{IsScript, BeginsNone}
use Rattle.rb_grammar.specs.Program.{IsProgram, max_height, max_levels}
use Rattle.rb_cursor.specs.declared.fault.ParseFault.{ParseFault}
use Rattle.rb_cursor.specs.declared.fault.ParseFault.TheVariants as fault
use Rattle.rb_builder.specs.Walk.{Walk}
use Rattle.rb_builder.specs.Script.{AreItems}
use Rattle.rb_builder.specs.declared.script.GrownItems.{GrownItems}
use Rattle.rb_parser.specs.Limits.{PassesLimits}

-- the tokens spell the items of a script, and these are made of them
pub record IsWalked (w : Walk) (tokens : List Token) (grown : GrownItems) : Type 0 where
  pub found : Items
  pub script : IsScript max_height max_levels tokens found
  pub made : AreItems w grown found

-- Where tokens are refused, no script begins so, or a limit is passed. Or memory is wanted.
abbrev pub IsRefused : List Token → ParseFault → Type 0
IsRefused tokens (fault.Syntax at) = BeginsNone tokens at
IsRefused tokens (fault.TooNested at) = PassesLimits tokens at
IsRefused tokens fault.Memory = Unit {0}

abbrev pub Walks : Walk → List Token → Result GrownItems ParseFault → Type 0
Walks w tokens (Ok grown) = IsWalked w tokens grown
Walks w tokens (Err e) = IsRefused tokens e

-- what two walks come to
abbrev pub Parses : List Token → Result Program ParseFault → Type 0
Parses tokens (Ok program) = IsProgram max_height max_levels tokens program
Parses tokens (Err e) = IsRefused tokens e
