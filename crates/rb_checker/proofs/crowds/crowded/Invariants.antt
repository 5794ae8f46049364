use Rattle.std.proofs.Common.{◌≡◌, [], take}
use Rattle.rb_checker.specs.Crowd.{crowded, seen_behind}
use Rattle.rb_checker.specs.Crowded.{IsCrowd}
use Rattle.rb_checker.specs.Fault.{first_of}
use Rattle.rb_checker.proofs.crowds.crowded.Given as goal

abbrev pub invariant-uses : goal.invariant-uses
invariant-uses l = record {
  kept : IsCrowd l.crowd l.limit (seen_behind [] (take l.place-index l.uses));
  first : l.found ≡ first_of (crowded l.limit (take l.place-index l.uses));
}
