use Rattle.std.proofs.Common.{◌≡◌, map, drop}
use Rattle.rb_model.specs.Things.{gathered, gathered_onto}
use Rattle.ordered_pairs.specs.Order.{pair_of}
use Rattle.ordered_pairs.proofs.few.FewPairs.indexed.Given as goal

-- the pairs so far, with those that are left put behind them, are all that are put one after the other
abbrev pub invariant-pairs : goal.invariant-pairs
invariant-pairs l = gathered_onto l.indexed.value (map pair_of (drop l.pair-index l.pair-items)) ≡ gathered (map pair_of l.pair-items)
