use Rattle.std.proofs.Common.{◌≡◌, ◌*◌, ◌++◌, ℕ, List, drop}
use Rattle.heap_core.specs.Blocks.{TextAt}
use Rattle.heap_core.specs.Heaps.{holder}
use Rattle.block_kinds.specs.Reading.{AreBytes, CanRead}
use Rattle.block_kinds.proofs.text.read_text.Given as goal

abbrev pub invariant-words : goal.invariant-words
invariant-words g l =
    (l.pass.badge.table_id ≡ l.initial.pass.badge.table_id)
    × (holder l.pass ≡ holder l.initial.pass)
    × ((bytes : List ℕ) → AreBytes bytes → CanRead (holder l.initial.pass) (TextAt bytes l.at) → l.bytes.items ++ drop (8 * l.k) bytes ≡ bytes)
