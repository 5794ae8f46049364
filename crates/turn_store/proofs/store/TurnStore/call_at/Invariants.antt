use Rattle.std.proofs.Common.{◌≡◌}
use Rattle.rb_model.specs.Doing.{said}
use Rattle.rb_model.specs.Log.{asked}
use Rattle.rb_model.specs.Moving.{items_of}
use Rattle.rb_shared.specs.Answers.{entry_of}
use Rattle.turn_store.specs.Calls.{refs_of}
use Rattle.turn_store.proofs.store.TurnStore.call_at.Given as goal

abbrev pub ghosts-take_turn : goal.ghosts-take_turn
ghosts-take_turn g a = record { slots = a.self.now.table.shared.key.slots }

abbrev pub ghosts-leave : goal.ghosts-leave
ghosts-leave g a = record { entry = entry_of a.step a.call.now a.moved.now (said a.reply.now); refs = refs_of a.reply.now a.moved.now }

abbrev pub ghosts-refuse : goal.ghosts-refuse
ghosts-refuse g a = record { call = asked a.call.now; moved = items_of a.moved.now }

abbrev pub invariant-turns : goal.invariant-turns
invariant-turns g l = (l.seat.table_id ≡ l.initial.seat.table_id) × (l.seat.me ≡ l.initial.seat.me)
