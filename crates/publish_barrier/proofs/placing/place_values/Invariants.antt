use Rattle.std.proofs.Common.{◌-◌, length}
use Rattle.rb_model.specs.declared.value.Value.{Value as Held}
use Rattle.rb_model.specs.Values.{Value as Val, plain}
use Rattle.rb_model.specs.Moving.{refs_in_all}
use Rattle.publish_barrier.specs.Gathers.{IsAddressed}
use Rattle.publish_barrier.proofs.Rows.{PlacedRows}
use Rattle.publish_barrier.proofs.placing.place_values.Given as goal

abbrev pub invariant-values : goal.invariant-values
invariant-values g l = PlacedRows Held Val plain refs_in_all (IsAddressed l.heap l.known.refs) l.fn.values.items l.values.items l.fn.waiting.items l.waiting.items l.at

abbrev pub decreases-values : goal.decreases-values
decreases-values g l = length l.values.items - l.at
