use Rattle.heap_core.specs.Passes.{holder_of}
use Rattle.heap_core.proofs.Turning.{had_has}
use Rattle.heap_core.proofs.pass.Heap.turn_in.Goals as goal

pub returns-in-Some-try_turn-clause-has : goal.returns-in-Some-try_turn-clause-has
returns-in-Some-try_turn-clause-has g c = had_has (holder_of c.tries.pass.badge.views) _ c.in-Some-try_turn.turn c.in-Some-try_turn.ensures.tried
