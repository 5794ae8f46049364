use Rattle.std.proofs.Common.{length, ◌-◌, ◌≤◌, ◌++◌}
use Rattle.rb_model.specs.Moving.{refs_in}
use Rattle.publish_barrier.proofs.Telling.{NotedOf}
use Rattle.publish_barrier.proofs.known.note_values.Given as goal

abbrev pub invariant-values : goal.invariant-values
invariant-values l = NotedOf refs_in l.fn.values l.at l.fn.known.refs l.known.refs

abbrev pub decreases-values : goal.decreases-values
decreases-values l = length l.values - l.at
