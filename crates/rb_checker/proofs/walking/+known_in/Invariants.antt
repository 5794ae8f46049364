use Rattle.std.proofs.Common.{length}
use Rattle.rb_checker.proofs.walking.+known_in.Given as goal

abbrev pub decreases-known_in : goal.decreases-known_in
decreases-known_in l = length l.round.now
