-- The slots that the edges of a path gave, by place.
use Rattle.std.specs.Prelude.{ℕ, zero, suc, ◌==◌, List, [], ◌∷◌, ◌++◌, Option, Some, None, if◌then◌else◌, length, slice_index_or}
use Rattle.std.specs.Option.{option_to_list}
use Rattle.rb_tree.specs.declared.span.NameId.{NameId}
use Rattle.shape_core.specs.declared.edge.Kind.{Kind}
use Rattle.shape_core.specs.declared.edge.Kind.TheVariants.{AnyLoc}
use Rattle.shape_core.specs.declared.edge.Edge.{Edge}
use Rattle.shape_core.specs.declared.edge.Edge.TheVariants.{Add, Widen, Share}
use Rattle.shape_core.specs.declared.facts.Place.{Place}
use Rattle.shape_core.specs.Path.{Path}
use Rattle.shape_tree.specs.declared.table.Slot.{Slot}

-- the slot that an edge gives
abbrev pub slot_of_edge : Edge → Option Slot
slot_of_edge (Add name kind) = Some (record { name = name; kind = kind })
slot_of_edge (Widen name) = Some (record { name = name; kind = AnyLoc })
slot_of_edge Share = None

-- the slots of a path, by place
abbrev pub slots_on : Path → List Slot
slots_on [] = []
slots_on (edge ∷ path) = slots_on path ++ option_to_list (slot_of_edge edge)

-- the slot of a place
abbrev pub slot_at : List Slot → ℕ → Slot
slot_at slots place = slice_index_or slots place (record { name = record { 0 = 0 }; kind = AnyLoc })

-- the newest place below n that was given to a name
abbrev pub found_below : List Slot → NameId → ℕ → Option (Place × Kind)
found_below slots name zero = None
found_below slots name (suc n) =
    if (slot_at slots n).name.0 == name.0 then Some (record { 0 = n }, (slot_at slots n).kind) else found_below slots name n

-- the newest place that was given to a name
abbrev pub latest : List Slot → NameId → Option (Place × Kind)
latest slots name = found_below slots name (length slots)
