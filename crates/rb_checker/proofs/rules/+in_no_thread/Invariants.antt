use Rattle.std.proofs.Common.{length}
use Rattle.rb_checker.proofs.rules.+in_no_thread.Given as goal

abbrev pub decreases-in_no_thread : goal.decreases-in_no_thread
decreases-in_no_thread l = length l.round.now
