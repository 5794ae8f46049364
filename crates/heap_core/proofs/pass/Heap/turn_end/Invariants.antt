use Rattle.rb_model.specs.Log.{asked, plain_entry}
use Rattle.heap_core.proofs.pass.Heap.turn_end.Given as goal

abbrev pub ghosts-enter_end : goal.ghosts-enter_end
ghosts-enter_end g a = record { entry = plain_entry a.step (asked a.call.now) }
