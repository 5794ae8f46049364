use Rattle.std.proofs.Common.{◌≡◌, ◌++◌}
use Rattle.std.specs.VecDeque.Iter.{deque_iter_rest}
use Rattle.array_strategy.proofs.growth.copies.Given as goal

abbrev pub invariant-anys : goal.invariant-anys
invariant-anys g l = record {
  can : (goal.iterator-anys g).can_next l.item-iterator;
  ends : (goal.iterator-anys g).is_finite l.item-iterator;
  parts : l.items.items ++ deque_iter_rest l.item-iterator ≡ l.anys.items;
}
