use Rattle.std.proofs.Common.{arith}
use Rattle.rb_lexer.proofs.Digits.{number_of-large}
use Rattle.rb_lexer.proofs.integers.number.Goals as goal

pub returns-then-value-digit-clause-absent : goal.returns-then-value-digit-clause-absent
returns-then-value-digit-clause-absent c = λ _.
    number_of-large c.args.digits.now c.loop-byte.byte-index c.loop-byte.value c.from-digit.result c.loop-byte-test.true c.if-byte-eq95.false
    c.loop-byte.invariant.0 (omega arith) (omega arith) c.if-value-digit.true
