use Rattle.std.proofs.Common.{◌≡◌, ℕ, Bool, ◌≤◌, length}
use Rattle.std.specs.Prelude.{map}
use Rattle.rb_tree.specs.declared.span.Span.{Span}
use Rattle.rb_cursor.specs.Word.{word_by}
use Rattle.rb_cursor.specs.Here.{at_rule}
use Rattle.rb_steps.specs.Within.{bars}
use Rattle.rb_steps.proofs.Parameters.{after_names}
use Rattle.rb_steps.proofs.params.bar_params.Given as goal

-- what was read so far goes on here
abbrev pub invariant-more : goal.invariant-more
invariant-more l = record {
  further : (levels : ℕ) (in_braces : Bool) (at : Span)
      → at_rule levels (bars in_braces at) l.fn.cursor ≡ at_rule levels (after_names in_braces at (map word_by l.words)) l.cursor;
  shorter : length l.cursor.rest ≤ length l.fn.cursor.rest;
}

abbrev pub decreases-more : goal.decreases-more
decreases-more l = length l.cursor.rest
