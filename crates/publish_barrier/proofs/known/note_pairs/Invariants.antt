use Rattle.std.proofs.Common.{length, ◌-◌, ◌≤◌, ◌++◌}
use Rattle.rb_model.specs.Moving.{refs_in}
use Rattle.publish_barrier.proofs.Telling.{NotedOf}
use Rattle.publish_barrier.proofs.known.note_pairs.Given as goal

abbrev pub invariant-pairs : goal.invariant-pairs
invariant-pairs l = NotedOf (λ p. refs_in p.0 ++ refs_in p.1) l.fn.pairs l.at l.fn.known.refs l.known.refs

abbrev pub decreases-pairs : goal.decreases-pairs
decreases-pairs l = length l.pairs - l.at
