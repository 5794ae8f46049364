-- Layouts over tables.
use Rattle.std.specs.Prelude.{◌≡◌, ℕ, ◌-◌, ◌<◌, ◌≤◌, List, [], ◌∷◌, ◌++◌, Option, Some, None, length, take, slice_index_or, slice_set, nat_lt, if◌then◌else◌}
use Rattle.shape_tree.specs.declared.table.Slot.{Slot}
use Rattle.shape_tree.specs.declared.table.Layout.{Layout}

abbrev pub Lists : Type 0
Lists = List (List Slot)

-- the layout of a shape with no place
abbrev pub root_layout : Layout
root_layout = record { table = 0; places = 0; own = None }

-- the slots of a table
abbrev pub table_at : Lists → ℕ → List Slot
table_at tables n = slice_index_or tables n []

-- the first slots of a table, with one that may be behind
abbrev pub slots_with : List Slot → ℕ → Option Slot → List Slot
slots_with table places None = take places table
slots_with table places (Some slot) = take (places - 1) table ++ slot ∷ []

-- the slots of a layout
abbrev pub slots_of : Lists → Layout → List Slot
slots_of tables layout = slots_with (table_at tables layout.table) layout.places layout.own

-- an own slot has a place
abbrev pub HasPlace : ℕ → Option Slot → Type 0
HasPlace places None = Unit {0}
HasPlace places (Some slot) = 0 < places

-- the table of a layout is there, and has as many places
pub record Fits (tables : Lists) (layout : Layout) : Type 0 where
  pub there : layout.table < length tables
  pub long : layout.places ≤ length (table_at tables layout.table)
  pub own : HasPlace layout.places layout.own

-- a layout with these slots more
pub record Extends (old : Lists) (layout : Layout) (more : List Slot) (new : Lists) (to : Layout) : Type 0 where
  pub fits : Fits new to
  pub slots : slots_of new to ≡ slots_of old layout ++ more

-- each layout over the old tables has the same slots over the new ones
abbrev pub Keeps : Lists → Lists → Type 0
Keeps old new = (layout : Layout) → Fits old layout → Extends old layout [] new layout

-- the tables once a layout has no slot of its own: with a table of its slots behind, where it had one
abbrev pub tables_settled : Lists → Layout → Option Slot → Lists
tables_settled tables layout None = tables
tables_settled tables layout (Some own) = tables ++ slots_of tables layout ∷ []

-- the tables once a layout has a slot more: as they were, unless its table ends with it
abbrev pub tables_extended : Lists → Layout → Slot → Lists
tables_extended tables layout slot =
    if nat_lt layout.places (length (table_at tables layout.table)) then tables
    else slice_set tables layout.table (table_at tables layout.table ++ slot ∷ [])
