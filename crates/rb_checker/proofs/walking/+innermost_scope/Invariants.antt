use Rattle.std.proofs.Common.{length}
use Rattle.rb_checker.proofs.walking.+innermost_scope.Given as goal

abbrev pub decreases-innermost_scope : goal.decreases-innermost_scope
decreases-innermost_scope l = length l.round.now
