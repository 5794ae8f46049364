use Rattle.std.proofs.Common.{length}
use Rattle.rb_checker.proofs.rules.+repeats.Given as goal

abbrev pub decreases-repeats : goal.decreases-repeats
decreases-repeats l = length l.round.now
