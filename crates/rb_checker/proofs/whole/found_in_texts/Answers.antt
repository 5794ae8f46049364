use Rattle.std.proofs.Common.{[], map, refl, ap, subst, ◌++◌, ◌∙◌}
use Rattle.std.specs.List.{flat_map}
use Rattle.rb_tree.specs.declared.node.Method.{Method}
use Rattle.rb_tree.specs.declared.node.Class.{Class}
use Rattle.rb_checker.specs.declared.event.Event.{Event}
use Rattle.rb_checker.specs.Bodies.{Tells}
use Rattle.rb_checker.specs.Crowd.{global_use, globals_in}
use Rattle.rb_checker.specs.Events.{events_in, bodies_from}
use Rattle.rb_checker.specs.Findings.{Faults, joined, gathered, firsts}
use Rattle.rb_checker.specs.Misplaced.{names_of, class_names}
use Rattle.rb_checker.specs.Rules as rule
use Rattle.rb_checker.specs.Sets.{Holds}
use Rattle.rb_checker.specs.Texts as spec
use Rattle.rb_checker.proofs.Finding.{uses_of_three}
use Rattle.rb_checker.proofs.whole.found_in_texts.Goals as goal

pub returns : goal.returns
returns c =
    let p = c.args.program.now in
    let functions = names_of p.functions in
    let classes = class_names p.classes in
    let bodies = bodies_from 0 p.bodies in
    let has_functions = subst (λ ms. Holds c.in_ok-functions.functions (map (λ (m : Method). m.name) ms)) c.as_slice-2.ensures c.in_ok-functions.ensures in
    let has_classes = subst (λ cs. Holds c.in_ok-classes.classes (map (λ (k : Class). k.name) cs)) c.as_slice-3.ensures c.in_ok-classes.ensures in
    let tells = subst (λ bs. Tells c.in_ok-bodies.bodies.total (map (λ e. e.items) c.in_ok-bodies.bodies.kept.items) (bodies_from 0 bs)) c.as_slice.ensures c.in_ok-bodies.ensures in
    let of_classes : Faults = gathered (spec.class_faults p.names functions classes bodies) p.classes in
    let of_functions : Faults = spec.methods_faults p.names functions classes bodies rule.top_level_method p.functions in
    let of_main : Faults = spec.text_faults p.names functions classes rule.top_level (events_in bodies [] p.main) in
    let in_classes = c.in_ok-in_classes.ensures.found functions classes bodies (record { has_functions = has_functions; has_classes = has_classes; tells = tells })
    ∙ ap (λ cs. firsts (gathered (spec.class_faults p.names functions classes bodies) cs)) c.as_slice-4.ensures in
    let in_functions = c.in_ok-in_functions.ensures.found functions classes bodies rule.top_level_method (record { has_functions = has_functions; has_classes = has_classes; tells = tells })
    (record { methods = (refl, refl); in_method = refl }) ∙ ap (λ ms. firsts (spec.methods_faults p.names functions classes bodies rule.top_level_method ms)) c.as_slice-5.ensures in
    let in_main = c.in_ok-in_main.ensures.found functions classes bodies rule.top_level (record { has_functions = has_functions; has_classes = has_classes; tells = tells })
    (record { methods = (refl, refl); in_method = refl }) ∙ ap (λ ns. firsts (spec.text_faults p.names functions classes rule.top_level (events_in bodies [] ns))) c.as_slice-6.ensures in
    record {
      found = c.and-2.ensures of_classes (joined of_functions of_main) in_classes (c.and.ensures of_functions of_main in_functions in_main);
      globals = uses_of_three (λ (e : Event). global_use e.sight e.at) (flat_map (spec.class_events bodies) p.classes) (flat_map (spec.method_events bodies) p.functions) (events_in bodies [] p.main)
          c.args.variables.now.globals.items c.in_classes.new.variables.globals.items c.in_methods.new.variables.globals.items c.in_text.new.variables.globals.items
          (c.in_ok-in_classes.ensures.globals functions classes bodies (record { has_functions = has_functions; has_classes = has_classes; tells = tells })
          ∙ ap (λ cs. c.args.variables.now.globals.items ++ globals_in (flat_map (spec.class_events bodies) cs)) c.as_slice-4.ensures)
          (c.in_ok-in_functions.ensures.globals functions classes bodies (record { has_functions = has_functions; has_classes = has_classes; tells = tells })
          ∙ ap (λ ms. c.in_classes.new.variables.globals.items ++ globals_in (flat_map (spec.method_events bodies) ms)) c.as_slice-5.ensures)
          (c.in_ok-in_main.ensures.globals functions classes bodies (record { has_functions = has_functions; has_classes = has_classes; tells = tells })
          ∙ ap (λ ns. c.in_methods.new.variables.globals.items ++ globals_in (events_in bodies [] ns)) c.as_slice-6.ensures);
    }
