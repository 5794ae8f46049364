-- The rule of a plain lock.
use Rattle.std.specs.Prelude.{◌≡◌, ℕ, true}
use Rattle.heap_core.specs.View.{Holder, Locked, busy_at}
use Rattle.heap_core.specs.Moment.{Moment, At, word}

-- A lock, whose word is this one, has one holder, which says so, and then the word is 1.
abbrev pub LockStands : Moment → (place i : ℕ) → Type 0
LockStands m place i = (holder : ℕ) × ((j : ℕ) (k : Holder) → At m.holders j k → k.live ≡ true → busy_at place k.doing ≡ Locked → (word m i ≡ 1) × (j ≡ holder))
