use Rattle.std.proofs.Common.{◌≡◌, ◌+◌, ◌-◌, ◌/◌, length}
use Rattle.heap_core.specs.Heaps.{holder}
use Rattle.block_kinds.specs.Built.{OwnsWords, byte_words, with_words}
use Rattle.block_kinds.proofs.laying.lay_text.Given as goal

abbrev pub invariant-words : goal.invariant-words
invariant-words g l =
    (l.pass.badge.table_id ≡ l.initial.pass.badge.table_id)
    × OwnsWords (holder l.pass) (l.at + 2 + l.k) ((length l.bytes + 7) / 8 - l.k)
    × (with_words (holder l.pass) (l.at + 2 + l.k) (byte_words ((length l.bytes + 7) / 8 - l.k) l.k l.bytes) ≡ with_words (holder l.initial.pass) (l.at + 2) (byte_words ((length l.bytes + 7) / 8) 0 l.bytes))
