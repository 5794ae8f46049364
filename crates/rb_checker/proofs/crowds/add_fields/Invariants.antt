use Rattle.std.proofs.Common.{◌≡◌, ◌++◌, drop}
use Rattle.rb_checker.specs.Crowd.{fields_in}
use Rattle.rb_checker.proofs.crowds.add_fields.Given as goal

abbrev pub invariant-events : goal.invariant-events
invariant-events l = l.uses.items ++ fields_in (drop l.event-index l.events) ≡ l.fn.uses.items ++ fields_in l.events
