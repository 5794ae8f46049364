use Rattle.std.proofs.Common.{◌∙◌, ◌++◌, ap, map}
use Rattle.std.proofs.lemmas.Result.{IfOk-weaker}
use Rattle.rb_model.specs.Moving.{refs_in_all}
use Rattle.rb_model.specs.Values.{plain}
use Rattle.publish_barrier.proofs.Meeting.{gathers_with}
use Rattle.publish_barrier.proofs.Naming.{named_all}
use Rattle.publish_barrier.proofs.gathering.gather.Goals as goal

pub returns : goal.returns
returns g c =
    let same = c.in_ok-wait_all.ensures ∙ ap (λ ws. ws ++ (refs_in_all c.args.values.now)) c.new-first.ensures.items in
    IfOk-weaker c.gather_from.result _ _
    (λ moved. gathers_with c.args.heap.now c.args.known.now.refs (map plain c.args.values.now) c.wait_all.new.waiting.items (refs_in_all c.args.values.now) moved same (named_all c.args.values.now))
    c.gather_from.ensures
