use Rattle.std.proofs.Common.{◌≡◌, false, take}
use Rattle.std.specs.List.{list_any}
use Rattle.rb_checker.specs.declared.event.Event.{Event}
use Rattle.rb_checker.specs.Settling.{begins_thread}
use Rattle.rb_checker.proofs.unsettled.starts_thread.Given as goal

abbrev pub invariant-events : goal.invariant-events
invariant-events l = list_any (λ (e : Event). begins_thread e.sight) (take l.event-index l.events) ≡ false
