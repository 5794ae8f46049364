use Rattle.std.proofs.Common.{◌≡◌, ◌++◌, ℕ, List, map, take}
use Rattle.std.specs.List.{flat_map}
use Rattle.rb_tree.specs.declared.node.Class.{Class}
use Rattle.rb_checker.specs.declared.event.Event.{Event}
use Rattle.rb_checker.specs.Bodies.{Tells}
use Rattle.rb_checker.specs.Texts.{method_events}
use Rattle.rb_checker.proofs.threads.add_classes.Given as goal

abbrev pub invariant-classes : goal.invariant-classes
invariant-classes l =
    (b : ℕ → List Event) → Tells l.bodies.total (map (λ e. e.items) l.bodies.kept.items) b
    → l.texts ≡ l.fn.texts ++ flat_map (λ (k : Class). map (method_events b) k.methods) (take l.class-index l.classes)
