use Rattle.std.proofs.Common.{length}
use Rattle.rb_cursor.proofs.scope.+is_local_within.Given as goal

abbrev pub decreases-is_local_within : goal.decreases-is_local_within
decreases-is_local_within l = length l.frames.now
