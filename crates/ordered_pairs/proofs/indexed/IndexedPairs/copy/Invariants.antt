use Rattle.std.proofs.Common.{◌≡◌, ◌++◌, map}
use Rattle.ordered_pairs.specs.Order.{pair_of, in_order}
use Rattle.ordered_pairs.proofs.indexed.IndexedPairs.copy.Given as goal

-- the pairs so far, and those of the entries that are left, are all
abbrev pub invariant-pairs : goal.invariant-pairs
invariant-pairs l = map pair_of l.pairs.items ++ in_order l.key-iterator.iter ≡ l.self
