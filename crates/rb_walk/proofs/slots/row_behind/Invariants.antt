use Rattle.std.proofs.Common.{◌≡◌, map, take}
use Rattle.rb_model.specs.Values.{plain}
use Rattle.rb_walk.proofs.slots.row_behind.Given as goal

abbrev pub invariant-values : goal.invariant-values
invariant-values l = map plain l.row.items ≡ map plain (take l.value-index l.values)
