use Rattle.heap_core.specs.Starting.{full_entry}
use Rattle.heap_core.proofs.pass.Heap.start_full.Given as goal

abbrev pub ghosts-enter_full : goal.ghosts-enter_full
ghosts-enter_full g a = record { entry = full_entry a.step a.call.now }
