use Rattle.std.proofs.Common.{rules}
use Rattle.heap_core.proofs.Closes.{shows_history}
use Rattle.heap_core.proofs.pass.Heap.show.Goals as goal

pub load-requires : goal.load-requires
load-requires g c = (search rules, search rules, shows_history _ _ _ _ c.requires.live c.requires.main c.requires.ended c.requires.gathered)
