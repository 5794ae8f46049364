-- The events of the bodies of threads, kept by their numbers.
use Rattle.std.specs.Prelude.{◌≡◌, ℕ, ◌-◌, ◌+◌, nat_lt, List, [], if◌then◌else◌, slice_get, unwrap_or}
use Rattle.rb_checker.specs.declared.event.Event.{Event}

-- of so many bodies, the events of the last ones, from the last on: those of a number
abbrev pub kept_at : ℕ → List (List Event) → ℕ → List Event
kept_at total kept number = if nat_lt number total then unwrap_or (slice_get kept (total - (number + 1))) [] else []

-- these are the events of each body that is kept, and none of the others
abbrev pub Tells : ℕ → List (List Event) → (ℕ → List Event) → Type 0
Tells total kept body_of = (number : ℕ) → body_of number ≡ kept_at total kept number
