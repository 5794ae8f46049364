-- What reading in turns has of a file.
use Rattle.std.specs.Prelude.{◌≡◌, ℕ, List, take}
use Rattle.rb_edge.specs.Edge.{Held, Untold, Nothing, Bytes}

-- these bytes were read of what is held, to its end or as far as a source is read
abbrev pub ReadOf : Held → List ℕ → Type 0
ReadOf Untold bytes = Unit {0}
ReadOf Nothing bytes = ⊥
ReadOf (Bytes held) bytes = bytes ≡ take 1048577 held

-- as far as the object tells, nothing is held
abbrev pub NotHeld : Held → Type 0
NotHeld Untold = Unit {0}
NotHeld Nothing = Unit {0}
NotHeld (Bytes held) = ⊥
