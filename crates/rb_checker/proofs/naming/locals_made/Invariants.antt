use Rattle.std.proofs.Common.{◌≡◌, take}
use Rattle.rb_checker.specs.Locals.{uses_in}
use Rattle.rb_checker.specs.Scoped.{made_in}
use Rattle.rb_checker.specs.Walked.{Walked}
use Rattle.rb_checker.proofs.naming.locals_made.Given as goal

abbrev pub invariant-events : goal.invariant-events
invariant-events l = record {
  walked : Walked l.walk (take l.event-index l.events);
  made : l.made.items ≡ made_in (uses_in (take l.event-index l.events));
}
