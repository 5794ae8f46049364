use Rattle.rb_model.specs.Log.{asked}
use Rattle.rb_shared.specs.View.{ask_of}
use Rattle.turn_store.proofs.shared.TurnStoreSharedStore.quick.Given as goal

abbrev pub ghosts-note : goal.ghosts-note
ghosts-note g a = record { ask = ask_of a.step (asked a.call.now) }
