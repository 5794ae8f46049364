use Rattle.rb_model.specs.Values.{plain}
use Rattle.rb_walk.proofs.Lists.{map_more}
use Rattle.rb_walk.proofs.slots.row_behind.Goals as goal

pub values-preserved : goal.values-preserved
values-preserved c =
    map_more plain c.values.row.items c.push.new.self.items c.in_ok-share.field-0 c.args.values.now c.value-item.result c.values.value-index c.in_ok-push.ensures.items c.values.invariant c.in_ok-share.ensures.value c.values-test.true c.value-item.is
