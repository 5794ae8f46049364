use Rattle.std.proofs.Common.{◌∙◌, ◌++◌, ◌∷◌, [], ap}
use Rattle.std.proofs.lemmas.Result.{IfOk-weaker}
use Rattle.rb_model.specs.Moving.{refs_in}
use Rattle.rb_model.specs.Values.{plain}
use Rattle.publish_barrier.proofs.Meeting.{gathers_with}
use Rattle.publish_barrier.proofs.Naming.{named_value}
use Rattle.publish_barrier.proofs.gathering.gather_value.Goals as goal

pub returns : goal.returns
returns g c =
    let same = c.in_ok-wait.ensures ∙ ap (λ ws. ws ++ (refs_in c.args.value.now)) c.new-first.ensures.items in
    IfOk-weaker c.gather_from.result _ _
    (λ moved. gathers_with c.args.heap.now c.args.known.now.refs (plain c.args.value.now ∷ []) c.wait.new.waiting.items (refs_in c.args.value.now) moved same (named_value c.args.value.now))
    c.gather_from.ensures
