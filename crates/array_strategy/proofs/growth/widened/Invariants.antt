use Rattle.std.proofs.Common.{◌≡◌, ◌≤◌, ◌+◌, ◌++◌, length, map}
use Rattle.std.specs.VecDeque.Iter.{deque_iter_rest}
use Rattle.array_strategy.proofs.growth.widened.Given as goal

abbrev pub invariant-ints : goal.invariant-ints
invariant-ints g l = record {
  can : (goal.iterator-ints g).can_next l.n-iterator;
  ends : (goal.iterator-ints g).is_finite l.n-iterator;
  parts : l.anys.items ++ map g.V.Item.int (deque_iter_rest l.n-iterator) ≡ map g.V.Item.int l.ints.items;
  room : l.anys.len + length (deque_iter_rest l.n-iterator) + l.room ≤ l.anys.cap;
}
