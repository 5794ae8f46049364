use Rattle.std.proofs.Common.{◌-◌, length}
use Rattle.rb_model.specs.declared.thing.Field.{Field as Told}
use Rattle.rb_model.specs.Doing.{slot}
use Rattle.rb_model.specs.Things.{Field}
use Rattle.publish_barrier.specs.Leaving.{refs_in_fields}
use Rattle.publish_barrier.specs.Gathers.{IsAddressed}
use Rattle.publish_barrier.proofs.Rows.{PlacedRows}
use Rattle.publish_barrier.proofs.placing.place_fields.Given as goal

abbrev pub invariant-fields : goal.invariant-fields
invariant-fields g l = PlacedRows Told Field slot refs_in_fields (IsAddressed l.heap l.known.refs) l.fn.fields.items l.fields.items l.fn.waiting.items l.waiting.items l.at

abbrev pub decreases-fields : goal.decreases-fields
decreases-fields g l = length l.fields.items - l.at
