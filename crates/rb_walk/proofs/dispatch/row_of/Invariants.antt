use Rattle.std.specs.List.{AllByRecursion}
use Rattle.rb_walk.specs.Dispatch.{IsKnown}
use Rattle.rb_walk.proofs.dispatch.row_of.Given as goal

abbrev pub invariant-founds : goal.invariant-founds
invariant-founds l = AllByRecursion (IsKnown l.script) l.row.items
