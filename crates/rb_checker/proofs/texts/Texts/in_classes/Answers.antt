use Rattle.std.proofs.Common.{take, ap, sym, [], ◌∷◌, ◌++◌, ◌∙◌, ◌+◌, append-nil}
use Rattle.std.specs.List.{flat_map}
use Rattle.std.proofs.lemmas.List.{take_more, take_all}
use Rattle.rb_checker.specs.declared.event.Event.{Event}
use Rattle.rb_checker.specs.Crowd.{global_use, globals_in}
use Rattle.rb_checker.specs.Findings.{gathered, firsts}
use Rattle.rb_checker.specs.Texts as spec
use Rattle.rb_checker.proofs.Finding.{found_more, variables_more}
use Rattle.rb_checker.proofs.texts.Texts.in_classes.Goals as goal

pub classes-init : goal.classes-init
classes-init c = record {
  found = λ functions classes b g. c.none-found.ensures;
  globals = λ functions classes b g. sym (append-nil c.args.variables.now.globals.items);
}

pub classes-preserved : goal.classes-preserved
classes-preserved c =
    let names = c.args.self.given.names.now in
    let all = c.args.all.now in
    let i = c.classes.class-index in
    let class = c.class-item.result in
    let more = take_more all i class c.classes-test.true ∙ ap (λ k. take i all ++ k ∷ []) (sym c.class-item.is) in
    record {
      found = λ functions classes b g.
          found_more (spec.class_faults names functions classes b) (take i all) (take (i + 1) all) class c.classes.found c.in_ok-next.next c.and-found.result more
          (c.classes.invariant.found functions classes b g) (c.in_ok-next.ensures.found functions classes b g) c.and-found.ensures;
      globals = λ functions classes b g.
          variables_more (λ (e : Event). global_use e.sight e.at) (spec.class_events b) (take i all) (take (i + 1) all) class
          c.args.variables.now.globals.items c.classes.variables.globals.items c.in_class.new.variables.globals.items more (c.classes.invariant.globals functions classes b g)
          (c.in_ok-next.ensures.globals functions classes b g);
    }

pub returns : goal.returns
returns c =
    let whole = take_all c.classes.class-index c.args.all.now c.classes-test.false in
    record {
      found = λ functions classes b g.
          c.classes.invariant.found functions classes b g ∙ ap (λ cs. firsts (gathered (spec.class_faults c.args.self.given.names.now functions classes b) cs)) whole;
      globals = λ functions classes b g.
          c.classes.invariant.globals functions classes b g ∙ ap (λ cs. c.args.variables.now.globals.items ++ globals_in (flat_map (spec.class_events b) cs)) whole;
    }
