-- All the rules of names, and the fault that counts.
use Rattle.std.specs.Prelude.{List, [], ◌∷◌, ◌++◌, Option, map}
use Rattle.std.specs.List.{flat_map}
use Rattle.rb_tree.specs.declared.node.Method.{Method}
use Rattle.rb_tree.specs.declared.node.Class.{Class}
use Rattle.rb_tree.specs.declared.node.Program.{Program}
use Rattle.rb_checker.specs.declared.event.Event.{Event}
use Rattle.rb_checker.specs.declared.fault.CheckFault.{CheckFault}
use Rattle.rb_checker.specs.Fault.{first_of}
use Rattle.rb_checker.specs.Around.{placed}
use Rattle.rb_checker.specs.Events.{events_in, bodies_from}
use Rattle.rb_checker.specs.Twice.{params_twice, repeated_in}
use Rattle.rb_checker.specs.Crowd.{fields_in, globals_in, by_place, crowded, classes_crowded, max_fields, max_globals}
use Rattle.rb_checker.specs.Locals.{uses_in}
use Rattle.rb_checker.specs.Settled.{unsettled}
use Rattle.rb_checker.specs.Misplaced.{misplaced_in}

module _ (program : Program) where
  -- the events of a method, those of the threads in it too
  abbrev pub method_events : Method → List Event
  method_events m = events_in (bodies_from 0 program.bodies) m.params m.body

  -- the texts that have scopes of their own: methods and the top level
  abbrev pub texts : List (List Event)
  texts =
      flat_map (λ (c : Class). map method_events c.methods) program.classes
      ++ (map method_events program.functions ++ events_in (bodies_from 0 program.bodies) [] program.main ∷ [])

  -- the instance variables of a class, those of `attr` lines too
  abbrev pub class_fields : Class → List CheckFault
  class_fields c = crowded max_fields (fields_in (flat_map method_events c.methods))

-- all the faults of a program
abbrev pub faults : Program → List CheckFault
faults program =
    misplaced_in program ++ (repeated_in program
    ++ (flat_map (λ (events : List Event). params_twice (uses_in events)) (texts program)
    ++ (flat_map (λ (events : List Event). unsettled (placed [] events)) (texts program)
    ++ (flat_map (class_fields program) program.classes
    ++ (crowded max_globals (by_place (globals_in (flat_map (λ (events : List Event). events) (texts program))))
    ++ classes_crowded program.classes)))))

-- the fault of a program that counts
abbrev pub fault_of : Program → Option CheckFault
fault_of program = first_of (faults program)
