use Rattle.std.proofs.Common.{◌≡◌, take}
use Rattle.std.specs.List.{flat_map}
use Rattle.rb_checker.specs.Fault.{first_of}
use Rattle.rb_checker.specs.Locals.{uses_in}
use Rattle.rb_checker.specs.Settled.{locals_in}
use Rattle.rb_checker.specs.Settling.{unsettled_at}
use Rattle.rb_checker.specs.Walked.{Walked}
use Rattle.rb_checker.proofs.unsettled.find_unsettled.Given as goal

abbrev pub invariant-events : goal.invariant-events
invariant-events l = record {
  walked : Walked l.walk (take l.event-index l.events);
  first : l.found ≡ first_of (flat_map (unsettled_at l.noted (locals_in (uses_in l.events))) (uses_in (take l.event-index l.events)));
}
