use Rattle.std.proofs.Common.{◌≡◌, ◌++◌, ◌-◌}
use Rattle.block_kinds.specs.Bytes.{bytes_in}
use Rattle.block_kinds.proofs.bytes.append_bytes.Given as goal

abbrev pub invariant-bytes : goal.invariant-bytes
invariant-bytes l = l.bytes.items ++ bytes_in (l.count - l.counter) l.left ≡ l.initial.bytes.items ++ bytes_in l.count l.word
