use Rattle.std.proofs.Common.{map, take}
use Rattle.std.specs.List.{IsDistinct}
use Rattle.rb_model.specs.Values.{same}
use Rattle.rb_model.specs.Things.{key_of}
use Rattle.ordered_pairs.specs.Order.{pair_of}
use Rattle.ordered_pairs.proofs.few.are_few.Given as goal

-- no key stands twice so far
abbrev pub invariant-pairs : goal.invariant-pairs
invariant-pairs l = IsDistinct same (map key_of (map pair_of (take l.place l.pairs)))
