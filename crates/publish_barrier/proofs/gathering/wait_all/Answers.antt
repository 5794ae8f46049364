use Rattle.publish_barrier.proofs.Rows.{waits_next}
use Rattle.publish_barrier.proofs.gathering.wait_all.Goals as goal

pub values-preserved : goal.values-preserved
values-preserved c =
    waits_next c.args.values.now c.values.value-index c.value-item.result c.args.waiting.now.items c.values.waiting.items c.wait.new.waiting.items c.values-test.true c.value-item.is
    c.values.invariant c.in_ok-wait.ensures
