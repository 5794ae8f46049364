-- How a rule goes on behind what a parser answers.
use Rattle.std.specs.Prelude.{◌≡◌, ℕ, Result, Ok, Err}
use Rattle.rb_grammar.specs.Rule.{Rule}
use Rattle.rb_cursor.specs.State.{State, Failed}
use Rattle.rb_cursor.specs.Here.{at_rule}
use Rattle.rb_cursor.specs.declared.fault.ParseFault.{ParseFault}

-- what the reader comes to at a rule is what it comes to at the rule that is left behind the answer, or it fails as is told
abbrev pub GoesTo : {A B : Type 0} → ℕ → Rule A → (B → Rule A) → State → State → Result B ParseFault → Type 0
GoesTo levels r left old new (Ok b) = at_rule levels r old ≡ at_rule levels (left b) new
GoesTo levels r left old new (Err e) = Failed (at_rule levels r old) e
