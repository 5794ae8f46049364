use Rattle.std.proofs.Common.{◌≡◌, map, take, true}
use Rattle.std.specs.List.{list_all}
use Rattle.rb_tree.specs.declared.node.Class.{Class}
use Rattle.rb_machine.specs.Scopes.{Script}
use Rattle.rb_code.specs.Erase.{erase_class}
use Rattle.rb_code.specs.Resolved.{class_fits}
use Rattle.rb_resolver.specs.Known.{IsKnown}
use Rattle.rb_resolver.proofs.script.classes.Given as goal

abbrev pub invariant-classes : goal.invariant-classes
invariant-classes l = record {
  erases : map erase_class l.codes ≡ take l.i l.sources;
  fits : (S : Script) → IsKnown l.known l.names S → l.own ≡ map (λ (k : Class). map S.method_names k.methods) l.sources → list_all (class_fits S) l.codes ≡ true;
}
