-- What the outside of the program tells.
use Rattle.std.specs.Prelude.{◌≡◌, ℕ, ◌<◌, ◌≤◌, ◌-◌, ◌^◌, ◌⊎◌, List, [], ◌++◌, length, take, drop, Option, Some, None}
use Rattle.rb_edge.specs.declared.traits.Read.{Read}
use Rattle.rb_edge.specs.declared.traits.Read.TheVariants as read
use Rattle.rb_edge.specs.declared.traits.Write.{Write}
use Rattle.rb_edge.specs.declared.traits.Write.TheVariants as write

-- what is held under a path: the object does not tell, there is nothing, or there are these bytes
pub data Held : Type 0 where
  Untold : Held
  Nothing : Held
  Bytes : (bytes : List ℕ) → Held

-- a count rose, or stands at the last value of a `u64`
abbrev pub Rose : ℕ → ℕ → Type 0
Rose before now = (before < now) ⊎ (now ≡ 2 ^ 64 - 1)

-- what a read from the place `at` on may answer of what is held; `room` is the length of the room, and `bytes` what stands in it afterwards
abbrev pub Reads : Held → ℕ → ℕ → List ℕ → Read → Type 0
Reads Untold at room bytes (read.Got n) = n ≤ room
Reads Nothing at room bytes (read.Got n) = ⊥
Reads (Bytes held) at room bytes (read.Got n) =
    (n ≤ room) × (n ≤ length (drop at held)) × (take n bytes ≡ take n (drop at held)) × (n ≡ 0 → 0 < room → length held ≤ at)
Reads Untold at room bytes read.End = Unit {0}
Reads Nothing at room bytes read.End = ⊥
Reads (Bytes held) at room bytes read.End = length held ≤ at
Reads Untold at room bytes read.Missing = Unit {0}
Reads Nothing at room bytes read.Missing = Unit {0}
Reads (Bytes held) at room bytes read.Missing = ⊥
Reads h at room bytes read.Failed = Unit {0}

-- what a sink tells grew by these bytes at its end, where it tells
abbrev pub Adds : Option (List ℕ) → Option (List ℕ) → List ℕ → Type 0
Adds None None bytes = Unit {0}
Adds None (Some new) bytes = ⊥
Adds (Some old) None bytes = ⊥
Adds (Some old) (Some new) bytes = new ≡ old ++ bytes

-- what a write may answer: it took some bytes from the front, at least one where there is one, or it took nothing
abbrev pub Writes : Option (List ℕ) → Option (List ℕ) → List ℕ → Write → Type 0
Writes old new bytes (write.Took n) = (n ≤ length bytes) × (0 < length bytes → 0 < n) × Adds old new (take n bytes)
Writes old new bytes write.Failed = Adds old new []

-- a line was handed to a sink: what it tells grew by the line, or by a front of it that is not the whole, and then its count of faults rose
abbrev pub Told : (old new : Option (List ℕ)) → List ℕ → Type 0 → Type 0
Told old new line rose = Adds old new line ⊎ (rose × (n : ℕ) × (n < length line) × Adds old new (take n line))
