use Rattle.std.proofs.Common.{◌≡◌, ◌++◌, ℕ, List, None, map, take}
use Rattle.std.specs.List.{flat_map}
use Rattle.rb_tree.specs.declared.node.Method.{Method}
use Rattle.rb_checker.specs.declared.event.Event.{Event as Seen}
use Rattle.rb_checker.specs.Bodies.{Tells}
use Rattle.rb_checker.specs.Locals.{uses_in}
use Rattle.rb_checker.specs.Scoped as spec
use Rattle.rb_checker.specs.Texts.{method_events}
use Rattle.rb_checker.proofs.naming.names_of_methods.Given as goal

abbrev pub invariant-methods : goal.invariant-methods
invariant-methods l = record {
  names : (b : ℕ → List Seen) → Tells l.bodies.total (map (λ e. e.items) l.bodies.kept.items) b
      → l.all ≡ map (λ (m : Method). spec.names_in (uses_in (method_events b m)) None) (take l.method-index l.methods);
  made : (b : ℕ → List Seen) → Tells l.bodies.total (map (λ e. e.items) l.bodies.kept.items) b
      → l.made.items ≡ l.fn.made.items ++ flat_map (λ (m : Method). spec.made_in (uses_in (method_events b m))) (take l.method-index l.methods);
}
