use Rattle.std.proofs.Common.{◌≡◌, take}
use Rattle.thing_store.proofs.copies.copied_fields.Given as goal

-- the copies so far are those so far
abbrev pub invariant-fields : goal.invariant-fields
invariant-fields l = l.copies.items ≡ take l.field-index l.fields
