use Rattle.std.proofs.Common.{take}
use Rattle.rb_builder.specs.Numbered.{AreNumbered}
use Rattle.rb_builder.proofs.numbers.bodies_of.Given as goal

abbrev pub invariant-places : goal.invariant-places
invariant-places l = AreNumbered (take l.number l.places) l.bodies
