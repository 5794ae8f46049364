-- What the reader of the grammar comes to within a phrase.
use Rattle.std.specs.Prelude.{ℕ}
use Rattle.rb_grammar.specs.Rule.{Rule}
use Rattle.rb_grammar.specs.Reading.{Outcome, answer, run}
use Rattle.rb_grammar.specs.Program.{max_height}
use Rattle.rb_cursor.specs.State.{State}

-- at a rule, or at what is left of one, with so many levels left for what opens
abbrev pub at_rule : {A : Type 0} → ℕ → Rule A → State → Outcome A
at_rule levels r s = run max_height (answer max_height) levels r s.scope s.looked s.rest
