use Rattle.heap_core.specs.Blocks.{LockAt}
use Rattle.heap_core.proofs.Locking.{gives_lock}
use Rattle.heap_core.proofs.Rooms.{place_inside}
use Rattle.heap_core.proofs.pass.Heap.unlock.Goals as goal

pub store-requires : goal.store-requires
store-requires g c = record {
  of = c.requires.of;
  known = (LockAt c.args.at, c.requires.known, place_inside (LockAt c.args.at));
  allows = gives_lock _ _ _ _ _ c.args.pass.now.rests.1.live c.requires.known c.requires.has;
}
