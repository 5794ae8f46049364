use Rattle.std.proofs.Common.{length, ◌-◌}
use Rattle.rb_lexer.proofs.Parts.{IsPartTo}
use Rattle.rb_lexer.proofs.part.part.Given as goal

abbrev pub invariant-characters : goal.invariant-characters
invariant-characters l = IsPartTo l.quote l.bytes l.at l.text

abbrev pub decreases-characters : goal.decreases-characters
decreases-characters l = length l.bytes - l.at
