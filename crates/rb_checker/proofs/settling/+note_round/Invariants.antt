use Rattle.std.proofs.Common.{length}
use Rattle.rb_checker.proofs.settling.+note_round.Given as goal

abbrev pub decreases-note_round : goal.decreases-note_round
decreases-note_round l = length l.round.now
