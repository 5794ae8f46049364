use Rattle.std.proofs.Common.{◌≡◌, ◌++◌, drop}
use Rattle.rb_checker.specs.Crowd.{globals_in}
use Rattle.rb_checker.proofs.crowds.add_globals.Given as goal

abbrev pub invariant-events : goal.invariant-events
invariant-events l = l.uses.items ++ globals_in (drop l.event-index l.events) ≡ l.fn.uses.items ++ globals_in l.events
