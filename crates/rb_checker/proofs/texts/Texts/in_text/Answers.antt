use Rattle.std.proofs.Common.{ap, ◌++◌, ◌∙◌}
use Rattle.rb_checker.specs.Crowd.{fields_in, globals_in}
use Rattle.rb_checker.specs.Findings.{firsts}
use Rattle.rb_checker.specs.Texts as spec
use Rattle.rb_checker.proofs.Joining.{so_value}
use Rattle.rb_checker.proofs.texts.Texts.in_text.Goals as goal

pub returns : goal.returns
returns c = record {
  found = so_value c.found_in.result c.found_in.ensures
      (λ found h functions classes b o g w.
      h functions classes b o g w
      ∙ ap (λ es. firsts (spec.text_faults c.args.self.given.names.now functions classes o es)) (c.as_slice-2.ensures.value ∙ c.in_ok-events.ensures b g.tells));
  fields = so_value c.found_in.result c.found_in.ensures
      (λ found h functions classes b g.
      c.in_ok-add.ensures.fields ∙ ap (λ es. c.args.variables.now.fields.items ++ fields_in es) (c.as_slice.ensures.value ∙ c.in_ok-events.ensures b g.tells));
  globals = so_value c.found_in.result c.found_in.ensures
      (λ found h functions classes b g.
      c.in_ok-add.ensures.globals ∙ ap (λ es. c.args.variables.now.globals.items ++ globals_in es) (c.as_slice.ensures.value ∙ c.in_ok-events.ensures b g.tells));
}
