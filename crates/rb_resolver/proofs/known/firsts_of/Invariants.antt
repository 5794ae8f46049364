use Rattle.std.proofs.Common.{◌≡◌, map, take}
use Rattle.rb_tree.specs.declared.node.Class.{Class}
use Rattle.rb_resolver.specs.Known.{first_in}
use Rattle.rb_resolver.proofs.known.firsts_of.Given as goal

abbrev pub invariant-classes : goal.invariant-classes
invariant-classes l = l.firsts ≡ map (λ (k : Class). first_in l.names k.methods) (take l.class-index l.classes)
