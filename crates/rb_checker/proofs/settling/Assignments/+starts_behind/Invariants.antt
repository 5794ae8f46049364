use Rattle.std.proofs.Common.{length}
use Rattle.rb_checker.proofs.settling.Assignments.+starts_behind.Given as goal

abbrev pub decreases-starts_behind : goal.decreases-starts_behind
decreases-starts_behind l = length l.round.now
