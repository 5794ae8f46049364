-- What a loop over phrases keeps.
use Rattle.std.proofs.Common.{◌≡◌, ◌≤◌, ℕ, Bool, true, length, List, [], ◌∷◌, ◌++◌}
use Rattle.rb_lexer.specs.declared.token.Token.{Token}
use Rattle.rb_grammar.specs.Look.{close_bracket, close_brace}
use Rattle.rb_grammar.specs.Tree.{Tree}
use Rattle.rb_grammar.specs.Phrase as p
use Rattle.rb_grammar.specs.Rule.{Rule, done, phrase}
use Rattle.rb_grammar.specs.Grammar.{closed_or}
use Rattle.rb_grammar.specs.Reading.{Outcome, and_then, answer, run}
use Rattle.rb_grammar.specs.Program.{max_height}
use Rattle.rb_cursor.specs.State.{State, answer_at}
use Rattle.rb_phrases.specs.Arms.{ArmTree, chosen_of}

-- What the reader comes to at the beginning is what it comes to behind what was read so far.
pub record Gone {A B V : Type 0} (Is : B → V → Type 0) (o : Outcome A) (next : V → Outcome A) (old now : State) (b : B) : Type 0 where
  pub value : V
  pub comes : o ≡ next value
  pub same : Is b value
  pub shorter : length now.rest ≤ length old.rest

-- behind a comma of an array, and of a hash: the bracket that closes it, or one more
abbrev pub more_items : List Tree → Rule (List Tree)
more_items found = closed_or close_bracket found (phrase (p.argument true) (λ a. phrase (p.array_items_rest (found ++ a ∷ [])) done))

abbrev pub more_pairs : List (Tree × Tree) → Rule (List (Tree × Tree))
more_pairs found = closed_or close_brace found (phrase p.pair (λ ab. phrase (p.pairs_rest (found ++ ab ∷ [])) done))

-- Behind the arms of a choice that were read so far, the last body is read, and then the choices are built.
pub record GoneOver {B C : Type 0} (IsFirst : B → ArmTree → Type 0) (AreMore : C → List ArmTree → Type 0) (levels : ℕ) (may_go_on : Bool) (word : Token) (old now : State) (first : B) (more : C) : Type 0 where
  pub arm : ArmTree
  pub arms : List ArmTree
  pub comes : answer_at levels (p.conditional word) old ≡ and_then (answer_at levels (p.otherwise may_go_on) now) (λ last. run max_height (answer max_height) levels (chosen_of arm arms last))
  pub is_first : IsFirst first arm
  pub are_more : AreMore more arms
  pub shorter : length now.rest ≤ length old.rest
