use Rattle.std.proofs.Common.{◌≡◌, ℕ, [], Some, take}
use Rattle.rb_checker.specs.Scoped.{names_behind, names_at}
use Rattle.rb_checker.specs.Walked.{Knows}
use Rattle.rb_checker.proofs.Makes.{made_before}
use Rattle.rb_checker.proofs.naming.names_of_blocks.Given as goal

abbrev pub invariant-made : goal.invariant-made
invariant-made l = record {
  known : Knows l.known (made_before [] (take l.local-index l.made));
  names : (place : ℕ) → names_at l.blocks place ≡ names_behind [] (Some place) (take l.local-index l.made);
}
