use Rattle.std.proofs.Common.{List, refl, ap, [], ◌++◌, ◌∙◌}
use Rattle.std.specs.List.{flat_map}
use Rattle.rb_checker.specs.declared.event.Event.{Event}
use Rattle.rb_checker.specs.declared.found.Found.{Found}
use Rattle.rb_checker.specs.Around.{placed}
use Rattle.rb_checker.specs.Check.{texts, class_fields}
use Rattle.rb_checker.specs.Crowd.{globals_in, by_place, crowded, max_globals, classes_crowded}
use Rattle.rb_checker.specs.Fault.{first_of}
use Rattle.rb_checker.specs.Locals.{uses_in}
use Rattle.rb_checker.specs.Misplaced.{misplaced_in}
use Rattle.rb_checker.specs.Scripts.{script_events}
use Rattle.rb_checker.specs.Settled.{unsettled}
use Rattle.rb_checker.specs.Twice.{params_twice, repeated_in}
use Rattle.rb_checker.proofs.Firsts.{first_of_both}
use Rattle.rb_checker.proofs.Scripting.{params_are, unsettled_are, fields_are, events_are}
use Rattle.rb_checker.proofs.whole.find_fault.Goals as goal

pub returns : goal.returns
returns c =
    let p = c.args.program.now in
    let found = c.in_ok-found.ensures.found in
    let of_params = flat_map (λ (es : List Event). params_twice (uses_in es)) (texts p) in
    let of_captures = flat_map (λ (es : List Event). unsettled (placed [] es)) (texts p) in
    let of_fields = flat_map (class_fields p) p.classes in
    let of_globals = crowded max_globals (by_place (globals_in (flat_map (λ (es : List Event). es) (texts p)))) in
    let of_classes = classes_crowded p.classes in
    let is_globals = c.in_ok-globals.ensures
    ∙ ap (λ us. first_of (crowded max_globals us))
    (c.as_slice.ensures.value ∙ c.in_ok-sort_by_place.ensures
    ∙ ap by_place (c.in_ok-found.ensures.globals ∙ ap (λ us. us ++ globals_in (script_events p)) c.none-variables.ensures.globals))
    ∙ ap (λ es. first_of (crowded max_globals (by_place (globals_in es)))) (events_are p) in
    let is_classes = c.crowded_class-classes.ensures ∙ ap (λ cs. first_of (classes_crowded cs)) c.as_slice-2.ensures in
    let last = first_of_both of_globals of_classes (of_globals ++ of_classes) c.in_ok-globals.globals c.crowded_class-classes.result c.first_of_two.result refl is_globals is_classes c.first_of_two.ensures in
    let crowds = first_of_both of_fields (of_globals ++ of_classes) (of_fields ++ (of_globals ++ of_classes)) c.in_ok-found.found.fields c.first_of_two.result c.first_of_two-crowds.result refl
    (ap (λ (f : Found). f.fields) found ∙ ap first_of (fields_are p)) last c.first_of_two-crowds.ensures in
    let captures = first_of_both of_captures (of_fields ++ (of_globals ++ of_classes)) (of_captures ++ (of_fields ++ (of_globals ++ of_classes)))
    c.in_ok-found.found.unsettled c.first_of_two-crowds.result c.first_of_two-2.result refl (ap (λ (f : Found). f.unsettled) found ∙ ap first_of (unsettled_are p)) crowds c.first_of_two-2.ensures in
    let locals = first_of_both of_params (of_captures ++ (of_fields ++ (of_globals ++ of_classes))) (of_params ++ (of_captures ++ (of_fields ++ (of_globals ++ of_classes))))
    c.in_ok-found.found.params c.first_of_two-2.result c.first_of_two-locals.result refl (ap (λ (f : Found). f.params) found ∙ ap first_of (params_are p)) captures c.first_of_two-locals.ensures in
    let names = first_of_both (repeated_in p) (of_params ++ (of_captures ++ (of_fields ++ (of_globals ++ of_classes)))) (repeated_in p ++ (of_params ++ (of_captures ++ (of_fields ++ (of_globals ++ of_classes)))))
    c.in_ok-repeated.repeated c.first_of_two-locals.result c.first_of_two-3.result refl c.in_ok-repeated.ensures locals c.first_of_two-3.ensures in
    first_of_both (misplaced_in p) (repeated_in p ++ (of_params ++ (of_captures ++ (of_fields ++ (of_globals ++ of_classes)))))
    (misplaced_in p ++ (repeated_in p ++ (of_params ++ (of_captures ++ (of_fields ++ (of_globals ++ of_classes))))))
    c.in_ok-found.found.misplaced c.first_of_two-3.result c.first_of_two-4.result refl (ap (λ (f : Found). f.misplaced) found) names c.first_of_two-4.ensures
