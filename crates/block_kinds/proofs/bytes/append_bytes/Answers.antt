use Rattle.std.proofs.Common.{arith}
use Rattle.block_kinds.proofs.Eights.{append_step, append_done}
use Rattle.block_kinds.proofs.bytes.append_bytes.Goals as goal

pub bytes-preserved : goal.bytes-preserved
bytes-preserved c = append_step _ _ _ c.args.count c.bytes.counter _ (omega (arith, c.bytes-test.true)) c.bytes.invariant c.in_ok-push.ensures.items

pub returns : goal.returns
returns c = record { appended = append_done _ _ c.args.count c.bytes.counter _ (omega (arith, c.bytes-test.false)) c.bytes.invariant }
