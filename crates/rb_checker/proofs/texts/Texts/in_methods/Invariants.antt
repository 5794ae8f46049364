use Rattle.std.proofs.Common.{◌≡◌, ◌++◌, ℕ, List, take}
use Rattle.std.specs.List.{flat_map}
use Rattle.rb_tree.specs.declared.span.NameId.{NameId}
use Rattle.rb_checker.specs.declared.event.Event.{Event}
use Rattle.rb_checker.specs.Crowd.{fields_in, globals_in}
use Rattle.rb_checker.specs.Findings.{firsts}
use Rattle.rb_checker.specs.Owners.{IsOwner}
use Rattle.rb_checker.specs.Rules as rule
use Rattle.rb_checker.specs.Texts as spec
use Rattle.rb_checker.specs.Texts.{Gives}
use Rattle.rb_checker.proofs.texts.Texts.in_methods.Given as goal

abbrev pub invariant-methods : goal.invariant-methods
invariant-methods l = record {
  found : (functions classes : List NameId) (b : ℕ → List Event) (o : rule.Owner) → Gives l.self functions classes b → IsOwner l.owner o
      → l.found ≡ firsts (spec.methods_faults l.self.given.names.now functions classes b o (take l.method-index l.methods));
  fields : (functions classes : List NameId) (b : ℕ → List Event) → Gives l.self functions classes b
      → l.variables.fields.items ≡ l.fn.variables.fields.items ++ fields_in (flat_map (spec.method_events b) (take l.method-index l.methods));
  globals : (functions classes : List NameId) (b : ℕ → List Event) → Gives l.self functions classes b
      → l.variables.globals.items ≡ l.fn.variables.globals.items ++ globals_in (flat_map (spec.method_events b) (take l.method-index l.methods));
}
