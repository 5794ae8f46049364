use Rattle.std.proofs.Common.{length}
use Rattle.rb_checker.proofs.settling.Assignments.+is_settled.Given as goal

abbrev pub decreases-is_settled : goal.decreases-is_settled
decreases-is_settled l = length l.round.now
