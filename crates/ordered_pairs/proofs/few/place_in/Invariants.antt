use Rattle.std.proofs.Common.{◌≡◌, false, map, take}
use Rattle.rb_model.specs.Values.{plain}
use Rattle.rb_model.specs.Things.{has_key}
use Rattle.ordered_pairs.specs.Order.{pair_of}
use Rattle.ordered_pairs.proofs.few.place_in.Given as goal

-- no pair so far has the key
abbrev pub invariant-pairs : goal.invariant-pairs
invariant-pairs l = has_key (plain l.key) (map pair_of (take l.place l.pairs)) ≡ false
