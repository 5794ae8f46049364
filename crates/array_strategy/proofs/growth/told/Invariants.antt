use Rattle.std.proofs.Common.{◌≡◌, ◌++◌, map}
use Rattle.std.specs.VecDeque.Iter.{deque_iter_rest}
use Rattle.array_strategy.proofs.growth.told.Given as goal

abbrev pub invariant-ints : goal.invariant-ints
invariant-ints g l = record {
  can : (goal.iterator-ints g).can_next l.n-iterator;
  ends : (goal.iterator-ints g).is_finite l.n-iterator;
  parts : l.items.items ++ map g.V.Item.int (deque_iter_rest l.n-iterator) ≡ map g.V.Item.int l.ints.items;
}
