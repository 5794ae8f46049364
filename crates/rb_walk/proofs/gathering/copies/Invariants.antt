use Rattle.std.proofs.Common.{◌≡◌, ◌++◌, map, drop}
use Rattle.rb_model.specs.Values.{plain}
use Rattle.rb_walk.proofs.gathering.copies.Given as goal

abbrev pub invariant-values : goal.invariant-values
invariant-values l = map plain l.copies.items ++ map plain (drop l.value-index l.values) ≡ map plain l.values
