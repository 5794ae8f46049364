use Rattle.std.proofs.Common.{◌≤◌, [], take}
use Rattle.rb_checker.specs.Around.{placed}
use Rattle.rb_checker.specs.Assigned.{IsNoted}
use Rattle.rb_checker.specs.Walked.{Walked}
use Rattle.rb_checker.proofs.settling.Assignments.new.Given as goal

abbrev pub invariant-events : goal.invariant-events
invariant-events l = record {
  walked : Walked l.walk (take l.event-index l.events);
  noted : IsNoted l.noted (placed [] (take l.event-index l.events));
  counted : l.noted.uses ≤ l.event-index;
}
