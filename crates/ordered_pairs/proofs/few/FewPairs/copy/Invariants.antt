use Rattle.std.proofs.Common.{◌≡◌, map, take}
use Rattle.ordered_pairs.specs.Order.{pair_of}
use Rattle.ordered_pairs.proofs.few.FewPairs.copy.Given as goal

-- the copies so far are those of the pairs so far
abbrev pub invariant-pairs : goal.invariant-pairs
invariant-pairs l = map pair_of l.copies.items ≡ map pair_of (take l.pair-index l.pair-items)
