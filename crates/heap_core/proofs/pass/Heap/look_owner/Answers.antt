use Rattle.heap_core.proofs.Owning.{looks_owner}
use Rattle.heap_core.proofs.pass.Heap.look_owner.Goals as goal

pub load-requires-clause-allows : goal.load-requires-clause-allows
load-requires-clause-allows g c = looks_owner _ _ _ _ _ _ c.args.pass.now.rests.1.live c.requires.known
