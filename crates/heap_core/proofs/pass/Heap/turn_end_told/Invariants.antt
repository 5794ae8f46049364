use Rattle.rb_model.specs.Log.{asked, plain_entry}
use Rattle.heap_core.proofs.pass.Heap.turn_end_told.Given as goal

abbrev pub ghosts-enter_told : goal.ghosts-enter_told
ghosts-enter_told g a = record { entry = plain_entry a.step (asked a.call.now); place = a.at }
