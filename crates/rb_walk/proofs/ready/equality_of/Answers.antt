use Rattle.std.proofs.Common.{refl, sym, ap, ◌∙◌}
use Rattle.rb_model.specs.Values.{Nil, plain, truth}
use Rattle.rb_machine.specs.Methods.{Gives}
use Rattle.rb_walk.proofs.Leaves.{equal_to_nil, held_nil}
use Rattle.rb_walk.proofs.ready.equality_of.Goals as goal

pub returns-in-Nil : goal.returns-in-Nil
returns-in-Nil c =
    let v = plain c.in_ok-value.value.now in
    let is = c.truth_of.ensures ∙ ap (λ b. Gives (truth b)) c.is_nil.ensures in
    (v, Nil, refl, c.target_of.ensures.none c.in_default.is, c.in_ok-value.ensures, held_nil c.args.right.now c.in-Nil.field-0 c.args.room.now c.in-Nil.is, equal_to_nil v ∙ sym is)
