use Rattle.std.proofs.Common.{◌≡◌, [], take, reverse}
use Rattle.rb_checker.specs.Around.{behind_all}
use Rattle.rb_checker.specs.Fault.{first_of}
use Rattle.rb_checker.specs.Locals.{uses_in}
use Rattle.rb_checker.specs.Twice.{params_of, params_twice}
use Rattle.rb_checker.specs.Walked.{Knows}
use Rattle.rb_checker.proofs.params.repeated_param.Given as goal

abbrev pub invariant-events : goal.invariant-events
invariant-events l = record {
  round : reverse l.round.items ≡ behind_all [] (take l.event-index l.events);
  before : Knows l.params (params_of [] (uses_in (take l.event-index l.events)));
  first : l.found ≡ first_of (params_twice (uses_in (take l.event-index l.events)));
}
