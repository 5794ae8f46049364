use Rattle.std.proofs.Common.{◌≡◌, ◌++◌, length, map}
use Rattle.rb_model.specs.Values.{plain}
use Rattle.rb_model.specs.Doing.{pair}
use Rattle.rb_walk.specs.Gathering.{paired_up}
use Rattle.rb_walk.proofs.gathering.pairs_in.Given as goal

abbrev pub invariant-pairs : goal.invariant-pairs
invariant-pairs l = map pair l.pairs.items ++ paired_up (map plain l.rest) ≡ paired_up (map plain l.values)

abbrev pub decreases-pairs : goal.decreases-pairs
decreases-pairs l = length l.rest
