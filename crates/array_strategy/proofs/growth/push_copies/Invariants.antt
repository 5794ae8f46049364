use Rattle.std.proofs.Common.{◌≡◌, ◌≤◌, ◌+◌, ◌-◌, ◌++◌, replicate}
use Rattle.array_strategy.proofs.growth.push_copies.Given as goal

abbrev pub invariant-copies : goal.invariant-copies
invariant-copies g l = record {
  copied : l.items.items ≡ l.initial.items.items ++ replicate l.counter l.fill;
  room : l.items.len + (l.count - l.counter) + 2 ≤ l.items.cap;
}
