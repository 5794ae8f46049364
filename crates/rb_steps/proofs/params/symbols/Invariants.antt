use Rattle.std.proofs.Common.{◌≡◌, ℕ, length}
use Rattle.std.specs.Prelude.{map}
use Rattle.rb_grammar.specs.Phrase as p
use Rattle.rb_cursor.specs.State.{answer_at}
use Rattle.rb_cursor.specs.Word.{word_by}
use Rattle.rb_steps.proofs.params.symbols.Given as goal

-- what was read so far goes on here
abbrev pub invariant-more : goal.invariant-more
invariant-more l = (levels : ℕ) → answer_at levels p.symbols l.fn.cursor ≡ answer_at levels (p.symbols_rest (map word_by l.words)) l.cursor

abbrev pub decreases-more : goal.decreases-more
decreases-more l = length l.cursor.rest
