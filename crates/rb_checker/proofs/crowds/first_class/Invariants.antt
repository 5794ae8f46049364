use Rattle.std.proofs.Common.{◌≡◌, map, take}
use Rattle.rb_tree.specs.declared.node.Class.{Class}
use Rattle.rb_checker.specs.declared.fault.CheckFault.TheVariants as fault
use Rattle.rb_checker.specs.Fault.{first_of}
use Rattle.rb_checker.proofs.crowds.first_class.Given as goal

abbrev pub invariant-classes : goal.invariant-classes
invariant-classes l = l.found ≡ first_of (map (λ (c : Class). fault.TooManyClasses c.at) (take l.class-index l.classes))
