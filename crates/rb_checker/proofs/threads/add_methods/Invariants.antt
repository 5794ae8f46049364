use Rattle.std.proofs.Common.{◌≡◌, ◌++◌, ℕ, List, map, take}
use Rattle.rb_checker.specs.declared.event.Event.{Event}
use Rattle.rb_checker.specs.Bodies.{Tells}
use Rattle.rb_checker.specs.Texts.{method_events}
use Rattle.rb_checker.proofs.threads.add_methods.Given as goal

abbrev pub invariant-methods : goal.invariant-methods
invariant-methods l = (b : ℕ → List Event) → Tells l.bodies.total (map (λ e. e.items) l.bodies.kept.items) b → l.texts ≡ l.fn.texts ++ map (method_events b) (take l.method-index l.methods)
