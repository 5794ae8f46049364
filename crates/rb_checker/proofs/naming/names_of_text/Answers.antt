use Rattle.std.proofs.Common.{[], None, ap, ◌++◌, ◌∙◌}
use Rattle.rb_checker.specs.Locals.{uses_in}
use Rattle.rb_checker.specs.Scoped as spec
use Rattle.rb_checker.proofs.Joining.{so_value}
use Rattle.rb_checker.proofs.naming.names_of_text.Goals as goal

pub returns : goal.returns
returns c = record {
  names = so_value c.own_names.result c.own_names.ensures
      (λ names h b tells. h ∙ ap (spec.names_behind [] None) (c.as_slice-3.ensures.value ∙ c.in_ok-here.ensures ∙ ap (λ es. spec.made_in (uses_in es)) (c.as_slice.ensures.value ∙ c.in_ok-events.ensures b tells)));
  made = so_value c.own_names.result c.own_names.ensures
      (λ names h b tells. c.in_ok-extend_from_slice.ensures.items
      ∙ ap (λ ls. c.args.made.now.items ++ ls) (c.as_slice-2.ensures.value ∙ c.in_ok-here.ensures ∙ ap (λ es. spec.made_in (uses_in es)) (c.as_slice.ensures.value ∙ c.in_ok-events.ensures b tells)));
}
