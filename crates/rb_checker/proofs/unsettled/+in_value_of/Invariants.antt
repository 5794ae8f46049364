use Rattle.std.proofs.Common.{length}
use Rattle.rb_checker.proofs.unsettled.+in_value_of.Given as goal

abbrev pub decreases-in_value_of : goal.decreases-in_value_of
decreases-in_value_of l = length l.round.now
