use Rattle.std.proofs.Common.{◌∙◌, ◌++◌, ap}
use Rattle.std.proofs.lemmas.Result.{IfOk-weaker}
use Rattle.rb_model.specs.Acts.{handed}
use Rattle.rb_model.specs.Doing.{doing}
use Rattle.rb_model.specs.Moving.{refs_in_act}
use Rattle.publish_barrier.proofs.Meeting.{gathers_with}
use Rattle.publish_barrier.proofs.Naming.{named_act}
use Rattle.publish_barrier.proofs.gathering.gather_act.Goals as goal

pub returns : goal.returns
returns g c =
    let same = c.in_ok-wait_act.ensures ∙ ap (λ ws. ws ++ (refs_in_act c.args.act.now)) c.new-first.ensures.items in
    IfOk-weaker c.gather_from.result _ _
    (λ moved. gathers_with c.args.heap.now c.args.known.now.refs (handed (doing c.args.act.now)) c.wait_act.new.waiting.items (refs_in_act c.args.act.now) moved same (named_act c.args.act.now))
    c.gather_from.ensures
