-- Blocks and methods behind their parameters.
use Rattle.std.specs.Prelude.{◌≡◌, ◌≤◌, ℕ, Bool, true, false, length, List, [], ◌∷◌, map, Result, Ok, Err}
use Rattle.rb_tree.specs.declared.span.Span.{Span}
use Rattle.rb_lexer.specs.declared.token.Token.{Token}
use Rattle.rb_grammar.specs.Look.{is, one_of, other_than, end_word, bar, open_paren}
use Rattle.rb_grammar.specs.Tree.{Word, BlockTree, MethodTree, given, setter_of}
use Rattle.rb_grammar.specs.Phrase as p
use Rattle.rb_grammar.specs.Scope.{leave}
use Rattle.rb_grammar.specs.Rule.{Rule, done, token, phrase, nested, look, scope}
use Rattle.rb_grammar.specs.Grammar.{closing, names, word_of, any, method_named}
use Rattle.rb_cursor.specs.State.{State, answer_at, Failed}
use Rattle.rb_cursor.specs.Here.{at_rule}
use Rattle.rb_cursor.specs.Word.{word_by}
use Rattle.rb_cursor.specs.declared.word.Word as code
use Rattle.rb_cursor.specs.declared.fault.ParseFault.{ParseFault}
use Rattle.rb_steps.specs.declared.params.MethodHead.{MethodHead}
use Rattle.rb_steps.specs.GoesTo.{GoesTo}

-- the rest of a block, and of a method, behind its parameters
abbrev pub within_block : Bool → Span → List Word → Rule BlockTree
within_block in_braces at words =
    phrase (p.body []) (λ b. token (is (closing in_braces)) (λ e. scope leave (done (record { at = at; params = words; body = b }))))

abbrev pub within_method : Word → List Word → Rule MethodTree
within_method name words =
    phrase (p.body []) (λ b. token (is end_word) (λ e. scope leave (done (record { name = name; params = words; body = b }))))

-- the parameters of a block in their bars, or none, and what is left of the block
abbrev pub bars : Bool → Span → Rule BlockTree
bars in_braces at = any (
    token (is bar) (λ t. token (one_of names) (λ w. phrase (p.bar_params_rest (word_of w ∷ [])) (λ ws. phrase (p.block_body in_braces at ws) done)))
    ∷ phrase (p.block_body in_braces at []) done
    ∷ [])

-- what is left behind them
abbrev pub behind_bars : Bool → Span → List code.Word → Rule BlockTree
behind_bars in_braces at words = phrase (p.block_body in_braces at (map word_by words)) done

-- the parameters of a block were read, or there are none
abbrev pub WentOverBars : State → State → Result (List code.Word) ParseFault → Type 0
WentOverBars old new result = (levels : ℕ) (in_braces : Bool) (at : Span) → GoesTo levels (bars in_braces at) (behind_bars in_braces at) old new result

-- what is left of a method behind its name and its parameters
abbrev pub behind_name : Word → List Word → Rule MethodTree
behind_name name words = phrase (p.method_body name words) done

-- the one parameter of a method in its brackets, and what is left
abbrev pub one_in_brackets : Word → Rule MethodTree
one_in_brackets name = token (is open_paren) (λ o. nested o.at p.one_param (λ w. behind_name name (w ∷ [])))

-- the parameters of a method in their brackets, or none, and what is left
abbrev pub some_in_brackets : Word → Rule MethodTree
some_in_brackets name = any (
    token (is open_paren) (λ o. nested o.at p.params (behind_name name))
    ∷ look (other_than (is open_paren)) (behind_name name [])
    ∷ [])

-- what is left behind the brackets
abbrev pub behind_params : Word → List code.Word → Rule MethodTree
behind_params name words = behind_name name (map word_by words)

-- the parameters of a method were read
abbrev pub WentOverOne : ℕ → State → State → Result (List code.Word) ParseFault → Type 0
WentOverOne levels old new result = (name : Word) → GoesTo levels (one_in_brackets name) (behind_params name) old new result

abbrev pub WentOverSome : ℕ → State → State → Result (List code.Word) ParseFault → Type 0
WentOverSome levels old new result = (name : Word) → GoesTo levels (some_in_brackets name) (behind_params name) old new result

-- the parameters were read, and their scope begun
abbrev pub WentIntoBlock : ℕ → Bool → Span → State → State → Result (List code.Word) ParseFault → Type 0
WentIntoBlock levels in_braces at old new (Ok words) = answer_at levels (p.block_rest in_braces at) old ≡ at_rule levels (within_block in_braces at (map word_by words)) new
WentIntoBlock levels in_braces at old new (Err e) = Failed (answer_at levels (p.block_rest in_braces at) old) e

-- the name of a method, with its `=`
abbrev pub named : Bool → Word → Word
named true w = given (setter_of w.text) w.at
named false w = w

abbrev pub name_of : MethodHead → Word
name_of head = named head.is_setter (word_by head.name)

-- what belongs to the name of a method was read, and its parameters
abbrev pub behind_head : MethodHead → Rule MethodTree
behind_head head = behind_params (name_of head) head.params

abbrev pub WentOverHead : ℕ → code.Word → State → State → Result MethodHead ParseFault → Type 0
WentOverHead levels name old new result = (t : Token) → word_by name ≡ word_of t → GoesTo levels (method_named t) behind_head old new result

-- the name and the parameters of a method were read, and its scope begun
pub record WithinMethod (levels : ℕ) (old new : State) (head : MethodHead) : Type 0 where
  pub comes : answer_at levels p.method_rest old ≡ at_rule levels (within_method (name_of head) (map word_by head.params)) new
  pub shorter : length new.rest ≤ length old.rest

abbrev pub WentIntoMethod : ℕ → State → State → Result MethodHead ParseFault → Type 0
WentIntoMethod levels old new (Ok head) = WithinMethod levels old new head
WentIntoMethod levels old new (Err e) = Failed (answer_at levels p.method_rest old) e
