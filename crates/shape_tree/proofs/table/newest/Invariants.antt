use Rattle.std.proofs.Common.{◌≡◌}
use Rattle.shape_tree.specs.Slots.{found_below}
use Rattle.shape_tree.proofs.table.newest.Given as goal

abbrev pub invariant-loop-place : goal.invariant-loop-place
invariant-loop-place l =
    found_below l.slots l.name l.places ≡ found_below l.slots l.name l.place
