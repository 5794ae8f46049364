use Rattle.std.proofs.Common.{◌+◌, arith}
use Rattle.rb_steps.proofs.Parameters.{one_more_local}
use Rattle.rb_steps.proofs.params.add_params.Goals as goal

pub params-preserved : goal.params-preserved
params-preserved c =
    one_more_local c.args.params.now c.params.param-index (c.params.param-index + 1) _ c.args.cursor.now c.params.cursor c.add_local.new.self
    c.params-test.true (omega arith) c.params.invariant c.in_ok-add_local.ensures.ok
