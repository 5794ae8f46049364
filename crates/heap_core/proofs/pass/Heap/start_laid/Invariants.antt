use Rattle.heap_core.specs.Starting.{born_by}
use Rattle.heap_core.proofs.pass.Heap.start_laid.Given as goal

abbrev pub ghosts-enter_start : goal.ghosts-enter_start
ghosts-enter_start g a = record { born = born_by a.step a.call.now a.turn a.thread.now a.line }
