use Rattle.std.proofs.Common.{◌≡◌, map, take, true}
use Rattle.std.specs.List.{list_all}
use Rattle.rb_machine.specs.Scopes.{Script}
use Rattle.rb_code.specs.Erase.{erase_method}
use Rattle.rb_code.specs.Resolved.{method_fits}
use Rattle.rb_resolver.specs.Known.{IsKnown}
use Rattle.rb_resolver.proofs.script.methods.Given as goal

abbrev pub invariant-methods : goal.invariant-methods
invariant-methods l = record {
  erases : map erase_method l.codes ≡ take l.i l.sources;
  fits : (S : Script) → IsKnown l.known l.names S → l.own ≡ map S.method_names l.sources → list_all (method_fits S) l.codes ≡ true;
}
