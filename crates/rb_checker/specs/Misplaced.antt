-- What stands where it may not, in all the texts of a program.
use Rattle.std.specs.Prelude.{ℕ, List, [], ◌++◌, map}
use Rattle.std.specs.List.{flat_map}
use Rattle.rb_tree.specs.declared.span.NameId.{NameId}
use Rattle.rb_tree.specs.declared.node.Method.{Method}
use Rattle.rb_tree.specs.declared.node.Class.{Class}
use Rattle.rb_tree.specs.declared.node.Program.{Program}
use Rattle.rb_checker.specs.declared.event.Event.{Event}
use Rattle.rb_checker.specs.declared.fault.CheckFault.{CheckFault}
use Rattle.rb_checker.specs.Names.{Text}
use Rattle.rb_checker.specs.Events.{events_in, bodies_from}
use Rattle.rb_checker.specs.Rules.{Owner, top_level, top_level_method, method_of, broken}

abbrev pub names_of : List Method → List NameId
names_of methods = map (λ (m : Method). m.name) methods

abbrev pub class_names : List Class → List NameId
class_names classes = map (λ (c : Class). c.name) classes

-- The names of a script, its top-level methods, its classes and the events of the bodies of its threads are given.
module _ (names : List Text) (functions classes : List NameId) (body_of : ℕ → List Event) where
  abbrev pub in_methods : Owner → List Method → List CheckFault
  in_methods owner methods = flat_map (λ (m : Method). broken names functions classes owner (events_in body_of m.params m.body)) methods

  abbrev pub in_classes : List Class → List CheckFault
  in_classes all = flat_map (λ (c : Class). in_methods (method_of (names_of c.methods)) c.methods) all

-- the faults of a program that hang on where an event stands
abbrev pub misplaced_in : Program → List CheckFault
misplaced_in p =
    let bodies = bodies_from 0 p.bodies in
    let functions = names_of p.functions in
    let classes = class_names p.classes in
    in_classes p.names functions classes bodies p.classes
    ++ (in_methods p.names functions classes bodies top_level_method p.functions
    ++ broken p.names functions classes top_level (events_in bodies [] p.main))
