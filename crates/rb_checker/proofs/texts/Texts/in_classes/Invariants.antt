use Rattle.std.proofs.Common.{◌≡◌, ◌++◌, ℕ, List, take}
use Rattle.std.specs.List.{flat_map}
use Rattle.rb_tree.specs.declared.span.NameId.{NameId}
use Rattle.rb_checker.specs.declared.event.Event.{Event}
use Rattle.rb_checker.specs.Crowd.{globals_in}
use Rattle.rb_checker.specs.Findings.{gathered, firsts}
use Rattle.rb_checker.specs.Texts as spec
use Rattle.rb_checker.specs.Texts.{Gives}
use Rattle.rb_checker.proofs.texts.Texts.in_classes.Given as goal

abbrev pub invariant-classes : goal.invariant-classes
invariant-classes l = record {
  found : (functions classes : List NameId) (b : ℕ → List Event) → Gives l.self functions classes b
      → l.found ≡ firsts (gathered (spec.class_faults l.self.given.names.now functions classes b) (take l.class-index l.all));
  globals : (functions classes : List NameId) (b : ℕ → List Event) → Gives l.self functions classes b
      → l.variables.globals.items ≡ l.fn.variables.globals.items ++ globals_in (flat_map (spec.class_events b) (take l.class-index l.all));
}
