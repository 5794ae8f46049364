use Rattle.std.proofs.Common.{◌≡◌, [], None, take}
use Rattle.rb_checker.specs.Scoped.{names_behind}
use Rattle.rb_checker.specs.Walked.{Knows}
use Rattle.rb_checker.proofs.Makes.{made_before}
use Rattle.rb_checker.proofs.naming.own_names.Given as goal

abbrev pub invariant-made : goal.invariant-made
invariant-made l = record {
  known : Knows l.known (made_before [] (take l.local-index l.made));
  names : l.names ≡ names_behind [] None (take l.local-index l.made);
}
