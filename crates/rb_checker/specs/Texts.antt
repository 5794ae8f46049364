-- What the texts of a script are checked with, and the faults of each.
use Rattle.std.specs.Prelude.{ℕ, List, [], map}
use Rattle.std.specs.List.{flat_map}
use Rattle.rb_tree.specs.declared.span.NameId.{NameId}
use Rattle.rb_tree.specs.declared.node.Method.{Method}
use Rattle.rb_tree.specs.declared.node.Class.{Class}
use Rattle.rb_checker.specs.declared.event.Event.{Event}
use Rattle.rb_checker.specs.declared.texts.Texts.{Texts}
use Rattle.rb_checker.specs.Around.{placed}
use Rattle.rb_checker.specs.Bodies.{Tells}
use Rattle.rb_checker.specs.Crowd.{fields_in, crowded, max_fields}
use Rattle.rb_checker.specs.Events.{events_in}
use Rattle.rb_checker.specs.Findings.{Faults, gathered}
use Rattle.rb_checker.specs.Locals.{uses_in}
use Rattle.rb_checker.specs.Misplaced.{names_of}
use Rattle.rb_checker.specs.Names.{Text}
use Rattle.rb_checker.specs.Rules.{Owner, method_of, broken}
use Rattle.rb_checker.specs.Settled.{unsettled}
use Rattle.rb_checker.specs.Sets.{Holds}
use Rattle.rb_checker.specs.Twice.{params_twice}

-- the sets are those of these top-level methods and classes, and the bodies of threads have these events
pub record Gives (t : Texts) (functions classes : List NameId) (body_of : ℕ → List Event) : Type 0 where
  pub has_functions : Holds t.given.functions.now functions
  pub has_classes : Holds t.given.classes.now classes
  pub tells : Tells t.bodies.now.total (map (λ e. e.items) t.bodies.now.kept.items) body_of

-- the events of a method
abbrev pub method_events : (ℕ → List Event) → Method → List Event
method_events body_of m = events_in body_of m.params m.body

-- The names of a script, its top-level methods and its classes are given.
module _ (names : List Text) (functions classes : List NameId) where
  abbrev pub text_faults : Owner → List Event → Faults
  text_faults owner events = record {
    misplaced = broken names functions classes owner events;
    params = params_twice (uses_in events);
    unsettled = unsettled (placed [] events);
    fields = [];
  }

  module _ (body_of : ℕ → List Event) where
    abbrev pub method_faults : Owner → Method → Faults
    method_faults owner m = text_faults owner (method_events body_of m)

    abbrev pub methods_faults : Owner → List Method → Faults
    methods_faults owner methods = gathered (method_faults owner) methods

    -- those of a class have its instance variables too
    abbrev pub class_faults : Class → Faults
    class_faults c = record (methods_faults (method_of (names_of c.methods)) c.methods) {
      fields = crowded max_fields (fields_in (flat_map (method_events body_of) c.methods));
    }

-- the events of a class
abbrev pub class_events : (ℕ → List Event) → Class → List Event
class_events body_of c = flat_map (method_events body_of) c.methods
