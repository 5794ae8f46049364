use Rattle.std.proofs.Common.{◌≡◌, ◌≤◌, length, map}
use Rattle.rb_model.specs.Things.{gathered, gathered_onto}
use Rattle.ordered_pairs.specs.Order.{pair_of}
use Rattle.ordered_pairs.proofs.pairs.OrderedPairs.one_by_one.Given as goal

-- the pairs so far, with those that are left, are all; and they are not too many
abbrev pub invariant-given : goal.invariant-given
invariant-given l = record {
  parts : gathered_onto l.pairs (map pair_of l.key-iterator.rest.items) ≡ gathered (map pair_of l.fn.given.items);
  few : length l.pairs ≤ 16777216;
}
