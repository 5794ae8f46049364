use Rattle.std.proofs.Common.{◌++◌, List, take}
use Rattle.rb_checker.specs.declared.event.Event.{Event}
use Rattle.rb_checker.specs.Locals.{Use, uses_in}
use Rattle.rb_checker.specs.Threads.{Notes}
use Rattle.rb_checker.specs.Walked.{Walked}
use Rattle.rb_checker.proofs.threads.Noted.note_text.Given as goal

abbrev pub invariant-events : goal.invariant-events
invariant-events l = record {
  walked : Walked l.walk (take l.event-index l.events);
  noted : (uses : List Use) (before : List Event) → Notes l.fn.self uses before → Notes l.self (uses ++ uses_in (take l.event-index l.events)) (before ++ take l.event-index l.events);
}
