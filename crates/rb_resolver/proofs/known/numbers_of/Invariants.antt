use Rattle.std.proofs.Common.{◌≡◌, take}
use Rattle.std.specs.Prelude.{nat_eq}
use Rattle.std.specs.HashMap as hash
use Rattle.rb_tree.specs.declared.span.NameId.{NameId}
use Rattle.rb_resolver.specs.Known.{number_of}
use Rattle.rb_resolver.proofs.known.numbers_of.Given as goal

abbrev pub invariant-methods : goal.invariant-methods
invariant-methods l = record {
  number : l.number ≡ l.method-index;
  functions : (name : NameId) → hash.get nat_eq l.functions name.0 ≡ number_of name (take l.method-index l.methods);
}
