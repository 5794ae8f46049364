use Rattle.std.proofs.Common.{◌≡◌}
use Rattle.heap_core.specs.Ending.{over_front}
use Rattle.heap_core.proofs.turn.end_lines.Given as goal

abbrev pub invariant-lines : goal.invariant-lines
invariant-lines l = l.lines ≡ over_front l.thread l.i l.initial.lines
