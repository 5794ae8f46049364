use Rattle.std.proofs.Common.{◌≡◌, drop, length, map}
use Rattle.thing_store.specs.Kept.{item_of}
use Rattle.thing_store.specs.Counted.{freed_item}
use Rattle.thing_store.proofs.Freeing.{freed_places}
use Rattle.thing_store.proofs.table.free_all.Given as goal

-- once those that are left are freed, all are
abbrev pub invariant-places : goal.invariant-places
invariant-places l = record {
  left : freed_places l.thread (drop l.place-index l.places) (map item_of l.rows.entries) ≡ map (freed_item l.thread) (map item_of l.initial.rows.entries);
  many : length l.rows.entries ≡ length l.initial.rows.entries;
}
