-- What holds of every program that is accepted.
use Rattle.std.specs.Prelude.{◌≡◌, ℕ, true, List, None, Ok}
use Rattle.std.specs.List.{AllByRecursion}
use Rattle.rb_tree.specs.declared.node.Program.{Program}
use Rattle.rb_lexer.specs.declared.token.Token.{Token}
use Rattle.rb_lexer.specs.declared.token.TokenKind.{TokenKind}
use Rattle.rb_lexer.specs.declared.token.TokenKind.TheVariants as kind
use Rattle.rb_lexer.specs.Tokens.{Lexes}
use Rattle.rb_lexer.specs.Spans.{StandInOrder, EndsOnce, NotEmpty}
use Rattle.rb_grammar.specs.Program.{IsProgram}
use Rattle.rb_checker.specs.Check.{fault_of}
use Rattle.rb_accepted.specs.Unbuilt.{first_unbuilt}
use Rattle.rb_accepted.specs.Coded.{begins_word, has_code}

-- an identifier and a symbol are words
abbrev pub IsWordKind : TokenKind → Type 0
IsWordKind (kind.Ident text) = begins_word text ≡ true
IsWordKind (kind.Symbol text) = begins_word text ≡ true
IsWordKind other = Unit {0}

abbrev pub IsWord : Token → Type 0
IsWord t = IsWordKind t.kind

-- tokens as the lexer answers them: each behind the one before it, of a byte at least, up to the one end, and names are words
pub record AreOrdered (tokens : List Token) : Type 0 where
  pub from : ℕ
  pub to : ℕ
  pub stand : StandInOrder from to tokens
  pub ends : EndsOnce tokens
  pub long : AllByRecursion NotEmpty tokens
  pub words : AllByRecursion IsWord tokens

-- A program that is spelled and keeps the rules of names makes objects of classes that are there, and gives blocks to calls of a receiver alone:
-- nothing in it is not built.
abbrev pub AcceptedHasAll : Type 0
AcceptedHasAll = (limit levels : ℕ) (tokens : List Token) (program : Program) → AreOrdered tokens → IsProgram limit levels tokens program
    → fault_of program ≡ None → first_unbuilt program ≡ None

-- The tokens of a source are words where they are identifiers or symbols.
abbrev pub LexedAreWords : Type 0
LexedAreWords = (source : List ℕ) (tokens : List Token) → Lexes source (Ok tokens) → AllByRecursion IsWord tokens

-- A program that is spelled and keeps the rules of names has code: each local of it has a slot, each thread finds the locals that it captures, and
-- names of methods and attributes are words.
abbrev pub AcceptedHasCode : Type 0
AcceptedHasCode = (limit levels : ℕ) (tokens : List Token) (program : Program) → AreOrdered tokens → IsProgram limit levels tokens program
    → fault_of program ≡ None → has_code program ≡ true
