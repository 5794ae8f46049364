use Rattle.std.proofs.Common.{◌-◌, length}
use Rattle.rb_model.specs.declared.value.Value.{Value as Held}
use Rattle.rb_model.specs.Values.{Value as Val}
use Rattle.rb_model.specs.Doing.{pair}
use Rattle.rb_model.specs.Moving.{refs_in_pairs}
use Rattle.publish_barrier.specs.Gathers.{IsAddressed}
use Rattle.publish_barrier.proofs.Rows.{PlacedRows}
use Rattle.publish_barrier.proofs.placing.place_pairs.Given as goal

abbrev pub invariant-pairs : goal.invariant-pairs
invariant-pairs g l = PlacedRows (Held × Held) (Val × Val) pair refs_in_pairs (IsAddressed l.heap l.known.refs) l.fn.pairs.items l.pairs.items l.fn.waiting.items l.waiting.items l.at

abbrev pub decreases-pairs : goal.decreases-pairs
decreases-pairs g l = length l.pairs.items - l.at
