use Rattle.std.proofs.Common.{◌≡◌, ℕ, ◌≤◌, length}
use Rattle.std.specs.Prelude.{map}
use Rattle.rb_grammar.specs.Phrase as p
use Rattle.rb_cursor.specs.State.{answer_at}
use Rattle.rb_cursor.specs.Word.{word_by}
use Rattle.rb_cursor.proofs.cursor.Cursor.params.Given as goal

-- what was read so far goes on here
abbrev pub invariant-more : goal.invariant-more
invariant-more l = record {
  further : (levels : ℕ) → answer_at levels p.params l.fn.self ≡ answer_at levels (p.params_rest (map word_by l.words)) l.self;
  shorter : length l.self.rest ≤ length l.fn.self.rest;
}

abbrev pub decreases-more : goal.decreases-more
decreases-more l = length l.self.rest
