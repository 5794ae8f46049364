use Rattle.std.proofs.Common.{map, take}
use Rattle.rb_tree.specs.declared.node.Class.{Class}
use Rattle.rb_checker.specs.Sets.{Holds}
use Rattle.rb_checker.proofs.sets.class_names.Given as goal

abbrev pub invariant-classes : goal.invariant-classes
invariant-classes l = Holds l.set (map (λ (m : Class). m.name) (take l.class-index l.classes))
