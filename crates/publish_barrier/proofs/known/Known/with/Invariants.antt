use Rattle.std.proofs.Common.{length, ◌-◌, [], ◌∷◌}
use Rattle.rb_shared.specs.View.{to_globals}
use Rattle.publish_barrier.proofs.Telling.{NotedOf}
use Rattle.publish_barrier.proofs.known.Known.with.Given as goal

abbrev pub invariant-refs : goal.invariant-refs
invariant-refs l = NotedOf (λ r. r ∷ []) l.fn.refs l.at (to_globals ∷ []) l.known.refs

abbrev pub decreases-refs : goal.decreases-refs
decreases-refs l = length l.refs - l.at
