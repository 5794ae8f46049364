use Rattle.std.proofs.Common.{◌≡◌, ◌≤◌, length, take, reverse}
use Rattle.rb_lexer.specs.Modes.{open_text_from}
use Rattle.rb_lexer.proofs.turn.open_text.Given as goal

abbrev pub invariant-modes : goal.invariant-modes
invariant-modes l = (l.index ≤ length l.below) × (open_text_from l.place (reverse (take l.index l.below)) ≡ open_text_from l.fn.innermost (reverse l.below))

abbrev pub decreases-modes : goal.decreases-modes
decreases-modes l = l.index
