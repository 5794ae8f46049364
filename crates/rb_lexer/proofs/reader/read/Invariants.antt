use Rattle.std.proofs.Common.{length, ◌-◌}
use Rattle.rb_lexer.specs.Stack.{modes_of}
use Rattle.rb_lexer.proofs.Reading.{IsReadTo}
use Rattle.rb_lexer.proofs.reader.read.Given as goal

abbrev pub invariant-turns : goal.invariant-turns
invariant-turns l = IsReadTo l.source l.lines (modes_of l.modes) l.at l.spaced

abbrev pub decreases-turns : goal.decreases-turns
decreases-turns l = length l.source - l.at
