use Rattle.std.proofs.Common.{◌≡◌, ◌≤◌, ◌+◌, ◌-◌, length, drop}
use Rattle.rb_lexer.proofs.Digits.{digit_run}
use Rattle.rb_lexer.proofs.integers.digits_len.Given as goal

abbrev pub invariant-digits : goal.invariant-digits
invariant-digits l = (l.len ≤ length l.bytes) × (l.len + digit_run (drop l.len l.bytes) ≡ digit_run l.bytes)

abbrev pub decreases-digits : goal.decreases-digits
decreases-digits l = length l.bytes - l.len
