use Rattle.std.proofs.Common.{[], Some, ap, ◌++◌, ◌∙◌, append_assoc}
use Rattle.rb_checker.specs.Captured.{params_in, captured_in}
use Rattle.rb_checker.specs.Scoped.{made_in, names_behind}
use Rattle.rb_checker.proofs.Joining.{so_value}
use Rattle.rb_checker.proofs.threads.frames_of.Goals as goal

pub returns : goal.returns
returns c =
    let first = c.as_slice.ensures.value in
    let second = c.as_slice-2.ensures.value in
    let third = c.as_slice-3.ensures.value in
    so_value c.names_of_blocks.result c.names_of_blocks.ensures
    (λ frames h uses events n place.
    h place ∙ ap (names_behind [] (Some place))
    (c.as_slice-4.ensures.value ∙ c.in_ok-extend_from_slice-2.ensures.items
    ∙ ap (λ ls. c.extend_from_slice.new.self.items ++ ls) (third ∙ n.made)
    ∙ ap (λ ls. ls ++ made_in uses)
    (c.in_ok-extend_from_slice.ensures.items ∙ ap (λ ls. c.in_ok-locals.locals.items ++ ls) (second ∙ n.captured)
    ∙ ap (λ ls. ls ++ captured_in uses) (c.in_ok-locals.ensures.items ∙ first ∙ n.params))
    ∙ append_assoc (params_in uses) (captured_in uses) (made_in uses)))
