use Rattle.std.proofs.Common.{◌≡◌, ◌≤◌, take}
use Rattle.rb_lexer.specs.Integer.{number_of}
use Rattle.rb_lexer.proofs.integers.number.Given as goal

abbrev pub invariant-loop-byte : goal.invariant-loop-byte
invariant-loop-byte l = (l.value ≡ number_of (take l.byte-index l.digits)) × (l.value ≤ 9223372036854775807)
