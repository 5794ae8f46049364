use Rattle.std.proofs.Common.{take, ap, sym, [], ◌∷◌, ◌++◌, ◌∙◌, ◌+◌, append-nil}
use Rattle.std.specs.List.{flat_map}
use Rattle.std.proofs.lemmas.List.{take_more, take_all}
use Rattle.rb_checker.specs.declared.event.Event.{Event}
use Rattle.rb_checker.specs.Crowd.{field_use, global_use, fields_in, globals_in}
use Rattle.rb_checker.specs.Events.{events_in}
use Rattle.rb_checker.specs.Findings.{firsts}
use Rattle.rb_checker.specs.Texts as spec
use Rattle.rb_checker.proofs.Finding.{found_more, variables_more}
use Rattle.rb_checker.proofs.texts.Texts.in_methods.Goals as goal

pub methods-init : goal.methods-init
methods-init c = record {
  found = λ functions classes b o g w. c.none-found.ensures;
  fields = λ functions classes b g. sym (append-nil c.args.variables.now.fields.items);
  globals = λ functions classes b g. sym (append-nil c.args.variables.now.globals.items);
}

pub methods-preserved : goal.methods-preserved
methods-preserved c =
    let names = c.args.self.given.names.now in
    let methods = c.args.methods.now in
    let i = c.methods.method-index in
    let method = c.method-item.result in
    let more = take_more methods i method c.methods-test.true ∙ ap (λ m. take i methods ++ m ∷ []) (sym c.method-item.is) in
    let old = c.methods.variables in
    record {
      found = λ functions classes b o g w.
          found_more (spec.method_faults names functions classes b o) (take i methods) (take (i + 1) methods) method c.methods.found c.in_ok-next.next c.and-found.result more
          (c.methods.invariant.found functions classes b o g w)
          (c.in_ok-next.ensures.found functions classes b o g w
          ∙ ap (λ ps. firsts (spec.text_faults names functions classes o (events_in b ps c.as_slice-in-methods.result.now))) c.as_slice.ensures
          ∙ ap (λ ns. firsts (spec.text_faults names functions classes o (events_in b method.params ns))) c.as_slice-in-methods.ensures)
          c.and-found.ensures;
      fields = λ functions classes b g.
          variables_more (λ (e : Event). field_use e.sight e.at) (spec.method_events b) (take i methods) (take (i + 1) methods) method
          c.args.variables.now.fields.items old.fields.items c.in_text.new.variables.fields.items more (c.methods.invariant.fields functions classes b g)
          (c.in_ok-next.ensures.fields functions classes b g ∙ ap (λ ps. old.fields.items ++ fields_in (events_in b ps c.as_slice-in-methods.result.now)) c.as_slice.ensures
          ∙ ap (λ ns. old.fields.items ++ fields_in (events_in b method.params ns)) c.as_slice-in-methods.ensures);
      globals = λ functions classes b g.
          variables_more (λ (e : Event). global_use e.sight e.at) (spec.method_events b) (take i methods) (take (i + 1) methods) method
          c.args.variables.now.globals.items old.globals.items c.in_text.new.variables.globals.items more (c.methods.invariant.globals functions classes b g)
          (c.in_ok-next.ensures.globals functions classes b g ∙ ap (λ ps. old.globals.items ++ globals_in (events_in b ps c.as_slice-in-methods.result.now)) c.as_slice.ensures
          ∙ ap (λ ns. old.globals.items ++ globals_in (events_in b method.params ns)) c.as_slice-in-methods.ensures);
    }

pub returns : goal.returns
returns c =
    let start = c.args.variables.now in
    let all = take_all c.methods.method-index c.args.methods.now c.methods-test.false in
    record {
      found = λ functions classes b o g w.
          c.methods.invariant.found functions classes b o g w ∙ ap (λ ms. firsts (spec.methods_faults c.args.self.given.names.now functions classes b o ms)) all;
      fields = λ functions classes b g.
          c.methods.invariant.fields functions classes b g ∙ ap (λ ms. start.fields.items ++ fields_in (flat_map (spec.method_events b) ms)) all;
      globals = λ functions classes b g.
          c.methods.invariant.globals functions classes b g ∙ ap (λ ms. start.globals.items ++ globals_in (flat_map (spec.method_events b) ms)) all;
    }
