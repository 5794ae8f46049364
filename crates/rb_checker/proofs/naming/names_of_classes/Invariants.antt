use Rattle.std.proofs.Common.{◌≡◌, ◌++◌, ℕ, List, None, map, take}
use Rattle.std.specs.List.{flat_map}
use Rattle.rb_tree.specs.declared.node.Class.{Class}
use Rattle.rb_tree.specs.declared.node.Method.{Method}
use Rattle.rb_checker.specs.declared.event.Event.{Event as Seen}
use Rattle.rb_checker.specs.Bodies.{Tells}
use Rattle.rb_checker.specs.Locals.{uses_in}
use Rattle.rb_checker.specs.Scoped as spec
use Rattle.rb_checker.specs.Texts.{method_events}
use Rattle.rb_checker.proofs.naming.names_of_classes.Given as goal

abbrev pub invariant-classes : goal.invariant-classes
invariant-classes l = record {
  names : (b : ℕ → List Seen) → Tells l.bodies.total (map (λ e. e.items) l.bodies.kept.items) b
      → l.all ≡ map (λ (k : Class). map (λ (m : Method). spec.names_in (uses_in (method_events b m)) None) k.methods) (take l.class-index l.classes);
  made : (b : ℕ → List Seen) → Tells l.bodies.total (map (λ e. e.items) l.bodies.kept.items) b
      → l.made.items ≡ l.fn.made.items ++ flat_map (λ (k : Class). flat_map (λ (m : Method). spec.made_in (uses_in (method_events b m))) k.methods) (take l.class-index l.classes);
}
