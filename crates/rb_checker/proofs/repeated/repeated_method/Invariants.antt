use Rattle.std.proofs.Common.{◌≡◌, take}
use Rattle.rb_checker.specs.Fault.{first_of}
use Rattle.rb_checker.specs.Sets.{Holds}
use Rattle.rb_checker.specs.Twice.{twice, defined_names, none_taken, of_methods}
use Rattle.rb_checker.proofs.repeated.repeated_method.Given as goal

abbrev pub invariant-methods : goal.invariant-methods
invariant-methods l = Holds l.set (defined_names (of_methods (take l.method-index l.methods))) × (l.found ≡ first_of (twice none_taken (of_methods (take l.method-index l.methods))))
