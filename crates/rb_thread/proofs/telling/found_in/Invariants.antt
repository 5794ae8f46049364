use Rattle.std.proofs.Common.{◌≡◌, ◌≤◌, ◌-◌, length, take}
use Rattle.std.specs.Prelude.{vec_capacity}
use Rattle.rb_model.specs.Moving.{refs_in_all}
use Rattle.publish_barrier.specs.Sorts.{all_noted_same}
use Rattle.rb_thread.proofs.telling.found_in.Given as goal

abbrev pub invariant-values : goal.invariant-values
invariant-values l =
    (l.refs.items ≡ all_noted_same l.known.refs (refs_in_all (take l.at l.values))) × (length l.refs.items ≤ l.at) × (length l.values ≤ vec_capacity l.refs)

abbrev pub decreases-values : goal.decreases-values
decreases-values l = length l.values - l.at
