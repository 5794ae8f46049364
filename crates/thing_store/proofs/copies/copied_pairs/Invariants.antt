use Rattle.std.proofs.Common.{◌≡◌, take}
use Rattle.thing_store.proofs.copies.copied_pairs.Given as goal

-- the copies so far are those so far
abbrev pub invariant-pairs : goal.invariant-pairs
invariant-pairs l = l.copies.items ≡ take l.pair-index l.pairs
