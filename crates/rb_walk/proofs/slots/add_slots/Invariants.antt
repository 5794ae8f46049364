use Rattle.std.proofs.Common.{◌≡◌, ◌++◌, map, replicate}
use Rattle.rb_model.specs.Values.{Nil, plain}
use Rattle.rb_walk.proofs.slots.add_slots.Given as goal

abbrev pub invariant-slots : goal.invariant-slots
invariant-slots l = map plain l.row.items ≡ map plain l.fn.row.items ++ replicate l.counter Nil
