-- The index of a table: where each name stands newest, and from each place the one before it of the same name.
use Rattle.std.specs.Prelude.{◌≡◌, ℕ, zero, suc, ◌==◌, ◌<◌, ◌≤◌, List, [], ◌∷◌, ◌++◌, Option, Some, None, if◌then◌else◌, nat_eq, length, slice_index_or}
use Rattle.std.specs.HashMap.{get}
use Rattle.std.specs.declared.boxed.Box.{Box}
use Rattle.std.specs.declared.alloc.Global.{Global}
use Rattle.shape_tree.specs.declared.index.Index.{Index}
use Rattle.shape_tree.specs.declared.index.TheConstants.{SHORT}
use Rattle.shape_tree.specs.declared.table.Slot.{Slot}
use Rattle.shape_tree.specs.Slots.{slot_at}

-- the newest place below n that was given to the name with a number
abbrev pub place_below : List Slot → ℕ → ℕ → Option ℕ
place_below slots name zero = None
place_below slots name (suc n) = if (slot_at slots n).name.0 == name then Some n else place_below slots name n

-- the newest place of each name, and at each place the one before it of its name
pub record IsIndexed (slots : List Slot) (found : ℕ → Option ℕ) (links : List (Option ℕ)) : Type 0 where
  pub newest : (name : ℕ) → found name ≡ place_below slots name (length slots)
  pub long : length links ≡ length slots
  pub earlier : (place : ℕ) → place < length slots → slice_index_or links place None ≡ place_below slots (slot_at slots place).name.0 place

-- an index is that of these slots
abbrev pub IsIndex : List Slot → Index → Type 0
IsIndex slots index = IsIndexed slots (get nat_eq index.newest) index.earlier.items

-- an index of slots becomes one of the same slots
abbrev pub StaysIndex : Index → Index → Type 0
StaysIndex old new = (slots : List Slot) → IsIndex slots old → IsIndex slots new

-- an index of slots becomes one of these with a slot behind
abbrev pub Gains : Index → Slot → Index → Type 0
Gains old slot new = (slots : List Slot) → IsIndex slots old → IsIndex (slots ++ slot ∷ []) new

-- a table that is not short has an index, and what index a table has is that of its slots
abbrev pub HasIndex : List Slot → Option (Box Index Global) → Type 0
HasIndex slots None = length slots ≤ SHORT
HasIndex slots (Some index) = IsIndex slots index.value
