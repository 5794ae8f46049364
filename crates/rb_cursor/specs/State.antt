-- Where a parser stands, and how what it answers is what the grammar's reader comes to.
use Rattle.std.specs.Prelude.{◌≡◌, ℕ, Bool, true, false, List, [], ◌∷◌, Result, Ok, Err}
use Rattle.rb_tree.specs.declared.span.Span.{Span}
use Rattle.rb_lexer.specs.declared.token.Token.{Token}
use Rattle.rb_grammar.specs.Look.{Test, class_of}
use Rattle.rb_grammar.specs.Scope.{Scope}
use Rattle.rb_grammar.specs.Phrase.{Phrase, Value}
use Rattle.rb_grammar.specs.Rule.{next_meets}
use Rattle.rb_grammar.specs.Reading.{Outcome, read, refused, too_nested, from_refused, answer}
use Rattle.rb_grammar.specs.Program.{max_height}
use Rattle.rb_cursor.specs.declared.fault.ParseFault.{ParseFault}
use Rattle.rb_cursor.specs.declared.fault.ParseFault.TheVariants as fault

-- the scopes, whether the parser has looked behind the next token, and the tokens that are left
pub record State : Type 0 where
  pub scope : Scope
  pub looked : Bool
  pub rest : List Token

-- the place of the next token
abbrev pub next_place : List Token → ℕ
next_place [] = 0
next_place (t ∷ ts) = t.at.from

-- what the reader of the grammar comes to at a phrase, with so many levels left for what opens
abbrev pub answer_at : ℕ → (n : Phrase) → State → Outcome (Value n)
answer_at levels n s = answer max_height levels n s.scope s.looked s.rest

-- the reader has read what the parser answers, and stands where the parser stands
pub record Reached {A B : Type 0} (Is : B → A → Type 0) (s : State) (o : Outcome A) (b : B) : Type 0 where
  pub value : A
  pub reads : o ≡ read value s.scope s.looked s.rest
  pub same : Is b value

-- the reader refuses a token, or finds a limit passed, at the place that the parser tells; or the parser wants memory
pub data Failed {A : Type 0} (o : Outcome A) : ParseFault → Type 0 where
  syntax : (ts : List Token) → o ≡ refused ts → Failed o (fault.Syntax (next_place ts))
  nested_too_deep : (at : Span) → o ≡ too_nested at → Failed o (fault.TooNested at.from)
  memory : Failed o fault.Memory

abbrev pub Came : {A B : Type 0} → (Is : B → A → Type 0) → State → Outcome A → Result B ParseFault → Type 0
Came Is s o (Ok b) = Reached Is s o b
Came Is s o (Err e) = Failed o e

-- ---- one token

-- the next token meets the test, and was taken
pub record Took (test : Test) (old new : State) (t : Token) : Type 0 where
  pub split : old.rest ≡ t ∷ new.rest
  pub meets : test (class_of t.kind) t.spaced ≡ true
  pub scope : new.scope ≡ old.scope
  pub looked : new.looked ≡ false

-- the next token does not meet the test, and is refused
pub record Missed (test : Test) (old : State) (e : ParseFault) : Type 0 where
  pub fails : next_meets test old.rest ≡ false
  pub told : e ≡ fault.Syntax (next_place (from_refused old.looked old.rest))

-- a test that any token meets
abbrev pub any_token : Test
any_token class spaced = true
