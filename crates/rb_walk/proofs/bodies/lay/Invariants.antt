use Rattle.std.proofs.Common.{◌≡◌, ◌<◌, ◌++◌, ℕ, length, map, Some}
use Rattle.std.specs.Prelude.{slice_get}
use Rattle.rb_model.specs.Values.{plain}
use Rattle.rb_walk.specs.Walks.{slot_value}
use Rattle.rb_walk.proofs.bodies.lay.Given as goal

abbrev pub invariant-slots : goal.invariant-slots
invariant-slots l =
    record {
      room : length l.room ≡ length l.fn.room;
      within : (i : ℕ) → i < l.slot → slice_get (map plain l.room) i ≡ Some (slot_value (map plain l.first ++ map plain l.second) i);
    }
