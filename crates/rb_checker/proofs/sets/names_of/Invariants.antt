use Rattle.std.proofs.Common.{map, take}
use Rattle.rb_tree.specs.declared.node.Method.{Method}
use Rattle.rb_checker.specs.Sets.{Holds}
use Rattle.rb_checker.proofs.sets.names_of.Given as goal

abbrev pub invariant-methods : goal.invariant-methods
invariant-methods l = Holds l.set (map (λ (m : Method). m.name) (take l.method-index l.methods))
