-- The faults of all texts of a script.
use Rattle.std.specs.Prelude.{List, [], ◌++◌}
use Rattle.std.specs.List.{flat_map}
use Rattle.rb_tree.specs.declared.node.Program.{Program}
use Rattle.rb_checker.specs.declared.event.Event.{Event}
use Rattle.rb_checker.specs.Events.{events_in, bodies_from}
use Rattle.rb_checker.specs.Findings.{Faults, joined, gathered}
use Rattle.rb_checker.specs.Misplaced.{names_of, class_names}
use Rattle.rb_checker.specs.Rules.{top_level, top_level_method}
use Rattle.rb_checker.specs.Texts.{text_faults, methods_faults, class_faults, method_events, class_events}

-- its classes, its top-level methods and its top level
abbrev pub script_faults : Program → Faults
script_faults p =
    let bodies = bodies_from 0 p.bodies in
    let functions = names_of p.functions in
    let classes = class_names p.classes in
    joined (gathered (class_faults p.names functions classes bodies) p.classes)
    (joined (methods_faults p.names functions classes bodies top_level_method p.functions) (text_faults p.names functions classes top_level (events_in bodies [] p.main)))

abbrev pub script_events : Program → List Event
script_events p =
    let bodies = bodies_from 0 p.bodies in
    flat_map (class_events bodies) p.classes ++ (flat_map (method_events bodies) p.functions ++ events_in bodies [] p.main)
