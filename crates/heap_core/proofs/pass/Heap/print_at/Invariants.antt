use Rattle.rb_model.specs.Log.{Print, plain_entry}
use Rattle.heap_core.proofs.pass.Heap.print_at.Given as goal

abbrev pub ghosts-enter_print : goal.ghosts-enter_print
ghosts-enter_print g a = record { entry = plain_entry a.step (Print a.text.now) }

abbrev pub ghosts-refuse_print : goal.ghosts-refuse_print
ghosts-refuse_print g a = record { call = Print a.text.now }
