use Rattle.std.proofs.Common.{◌≡◌, ◌≤◌, ◌+◌, ◌-◌, ◌++◌, replicate}
use Rattle.array_strategy.proofs.flags.push_fills.Given as goal

abbrev pub invariant-fills : goal.invariant-fills
invariant-fills l = record {
  filled : l.flags.items ≡ l.initial.flags.items ++ replicate l.counter l.fill;
  room : l.flags.len + (l.count - l.counter) + 1 ≤ l.flags.cap;
}
