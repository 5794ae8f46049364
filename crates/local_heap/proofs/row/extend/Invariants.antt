use Rattle.std.proofs.Common.{◌-◌, ◌≤◌, length, map}
use Rattle.rb_model.specs.Values.{plain}
use Rattle.local_heap.specs.Slots.{Alike}
use Rattle.local_heap.proofs.row.extend.Given as goal

abbrev pub invariant-more : goal.invariant-more
invariant-more l = record { alike : Alike (map plain l.initial.row.items) (map plain l.row.items); short : length l.row.items ≤ l.len }

abbrev pub decreases-more : goal.decreases-more
decreases-more l = l.len - length l.row.items
