use Rattle.std.proofs.Common.{rules, arith}
use Rattle.heap_core.proofs.Turning.{takes_slot}
use Rattle.heap_core.proofs.pass.Heap.hand_back.Goals as goal

pub load-requires : goal.load-requires
load-requires g c =
    let some_words = c.args.self.now.sizes in
    (search rules, omega (arith, some_words), takes_slot _ _ _ _ c.requires.has.0 c.requires.rests c.requires.live c.requires.has.1)
