use Rattle.std.proofs.Common.{arith}
use Rattle.rb_resolver.proofs.Grows.{slot_here, slot_before}
use Rattle.rb_resolver.proofs.frame.find.Goals as goal

pub returns-then-names-left : goal.returns-then-names-left
returns-then-names-left c =
    slot_here c.args.name c.args.names.now c.backwards.left _ c.backwards-test.true c.backwards.invariant.within c.backwards.invariant.rest c.if-names-left.true

pub backwards-preserved : goal.backwards-preserved
backwards-preserved c = record {
  within = omega (arith, c.backwards.invariant.within);
  rest = slot_before c.args.name c.args.names.now c.backwards.left _ c.backwards-test.true c.backwards.invariant.within c.backwards.invariant.rest c.if-names-left.false;
}
