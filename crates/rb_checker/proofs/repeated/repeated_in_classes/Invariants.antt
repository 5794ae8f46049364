use Rattle.std.proofs.Common.{◌≡◌, take}
use Rattle.std.specs.List.{flat_map}
use Rattle.rb_tree.specs.declared.node.Class.{Class}
use Rattle.rb_checker.specs.Fault.{first_of}
use Rattle.rb_checker.specs.Twice.{methods_twice}
use Rattle.rb_checker.proofs.repeated.repeated_in_classes.Given as goal

abbrev pub invariant-classes : goal.invariant-classes
invariant-classes l = l.found ≡ first_of (flat_map (λ (c : Class). methods_twice c.methods) (take l.class-index l.classes))
