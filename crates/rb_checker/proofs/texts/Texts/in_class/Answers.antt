use Rattle.std.proofs.Common.{map, refl, ap, subst, ◌++◌, ◌∙◌}
use Rattle.std.specs.List.{flat_map}
use Rattle.rb_tree.specs.declared.node.Method.{Method}
use Rattle.rb_checker.specs.declared.found.Found.{Found}
use Rattle.rb_checker.specs.Crowd.{fields_in, globals_in, crowded, max_fields}
use Rattle.rb_checker.specs.Fault.{first_of}
use Rattle.rb_checker.specs.Findings.{firsts}
use Rattle.rb_checker.specs.Misplaced.{names_of}
use Rattle.rb_checker.specs.Rules as rule
use Rattle.rb_checker.specs.Sets.{Holds}
use Rattle.rb_checker.specs.Texts as spec
use Rattle.rb_checker.proofs.Finding.{found_is}
use Rattle.rb_checker.proofs.texts.Texts.in_class.Goals as goal

pub returns : goal.returns
returns c =
    let class = c.args.class.now in
    let names = c.args.self.given.names.now in
    let owner : rule.Owner = rule.method_of (names_of class.methods) in
    let holds = subst (λ ms. Holds c.in_ok-methods.methods (map (λ (m : Method). m.name) ms)) c.as_slice.ensures c.in_ok-methods.ensures in
    record {
      found = λ functions classes b g.
          let found = c.in_ok-found.ensures.found functions classes b owner g (record { methods = (holds, refl); in_method = refl })
          ∙ ap (λ ms. firsts (spec.methods_faults names functions classes b owner ms)) c.as_slice-2.ensures in
          let fields = c.as_slice-3.ensures.value ∙ c.in_ok-found.ensures.fields functions classes b g
          ∙ ap (λ us. us ++ fields_in (flat_map (spec.method_events b) c.as_slice-2.result.now)) c.clear.ensures.items
          ∙ ap (λ ms. fields_in (flat_map (spec.method_events b) ms)) c.as_slice-2.ensures in
          found_is c.with_fields.result (spec.class_faults names functions classes b class)
          (c.with_fields.ensures.misplaced ∙ ap (λ (f : Found). f.misplaced) found) (c.with_fields.ensures.params ∙ ap (λ (f : Found). f.params) found)
          (c.with_fields.ensures.unsettled ∙ ap (λ (f : Found). f.unsettled) found)
          (c.with_fields.ensures.fields ∙ c.in_ok-fields.ensures ∙ ap (λ us. first_of (crowded max_fields us)) fields);
      globals = λ functions classes b g.
          c.in_ok-found.ensures.globals functions classes b g
          ∙ ap (λ ms. c.args.variables.now.globals.items ++ globals_in (flat_map (spec.method_events b) ms)) c.as_slice-2.ensures;
    }
