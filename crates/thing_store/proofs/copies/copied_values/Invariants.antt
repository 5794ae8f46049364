use Rattle.std.proofs.Common.{◌≡◌, take}
use Rattle.thing_store.proofs.copies.copied_values.Given as goal

-- the copies so far are those so far
abbrev pub invariant-values : goal.invariant-values
invariant-values l = l.copies.items ≡ take l.value-index l.values
