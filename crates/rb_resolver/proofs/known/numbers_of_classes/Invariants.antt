use Rattle.std.proofs.Common.{◌≡◌, take}
use Rattle.std.specs.Prelude.{nat_eq}
use Rattle.std.specs.HashMap as hash
use Rattle.rb_tree.specs.declared.span.NameId.{NameId}
use Rattle.rb_resolver.specs.Known.{class_of}
use Rattle.rb_resolver.proofs.known.numbers_of_classes.Given as goal

abbrev pub invariant-classes : goal.invariant-classes
invariant-classes l = record {
  number : l.number ≡ l.class-index;
  classes : (name : NameId) → hash.get nat_eq l.classes name.0 ≡ class_of name (take l.class-index l.all);
}
