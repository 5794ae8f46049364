use Rattle.std.proofs.Common.{◌≡◌, take}
use Rattle.rb_checker.specs.Fault.{first_of}
use Rattle.rb_checker.specs.Sets.{Holds}
use Rattle.rb_checker.specs.Twice.{twice, defined_names, is_taken, of_classes}
use Rattle.rb_checker.proofs.repeated.repeated_class.Given as goal

abbrev pub invariant-classes : goal.invariant-classes
invariant-classes l = Holds l.set (defined_names (of_classes (take l.class-index l.classes))) × (l.found ≡ first_of (twice (is_taken l.names) (of_classes (take l.class-index l.classes))))
