use Rattle.std.proofs.Common.{drop}
use Rattle.std.specs.List.{AllByRecursion}
use Rattle.rb_walk.specs.Readers.{AssignsParameter}
use Rattle.rb_walk.proofs.target.all_assign.Given as goal

abbrev pub invariant-body : goal.invariant-body
invariant-body l = AllByRecursion (AssignsParameter l.count) (drop l.code-index l.body) → AllByRecursion (AssignsParameter l.count) l.body
