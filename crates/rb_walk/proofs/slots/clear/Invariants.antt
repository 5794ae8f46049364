use Rattle.std.proofs.Common.{◌≡◌, ◌≤◌, ◌<◌, ℕ, length, Some}
use Rattle.std.specs.Prelude.{slice_get}
use Rattle.rb_model.specs.declared.value.Value.TheVariants as value
use Rattle.rb_walk.proofs.slots.clear.Given as goal

abbrev pub invariant-slots : goal.invariant-slots
invariant-slots l =
    record {
      room : length l.room ≡ length l.fn.room;
      below : (i : ℕ) → i < l.from → slice_get l.room i ≡ slice_get l.fn.room i;
      above : (i : ℕ) → l.to ≤ i → slice_get l.room i ≡ slice_get l.fn.room i;
      within : (i : ℕ) → l.from ≤ i → i < l.slot → slice_get l.room i ≡ Some value.Nil;
    }
