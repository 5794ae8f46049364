use Rattle.std.proofs.Common.{◌≡◌, ◌≤◌, ◌+◌, ◌++◌, length, map}
use Rattle.std.specs.VecDeque.Iter.{deque_iter_rest}
use Rattle.array_strategy.proofs.flags.widened_flags.Given as goal

abbrev pub invariant-flags : goal.invariant-flags
invariant-flags g l = record {
  can : (goal.iterator-flags g).can_next l.flag-iterator;
  ends : (goal.iterator-flags g).is_finite l.flag-iterator;
  parts : l.anys.items ++ map g.V.Item.flag (deque_iter_rest l.flag-iterator) ≡ map g.V.Item.flag l.flags.items;
  room : l.anys.len + length (deque_iter_rest l.flag-iterator) + l.room ≤ l.anys.cap;
}
