-- The shapes of a tree, by their keys, and what is kept of each.
use Rattle.std.specs.Prelude.{◌≡◌, ℕ, ◌<◌, List, [], ◌∷◌, ◌++◌, false, length, slice_index_or}
use Rattle.shape_core.specs.Path.{is_shared}
use Rattle.shape_core.specs.Shape.{Shape, IsStore, root_of, child_of, shape_at}
use Rattle.shape_tree.specs.declared.key.Key.{Key}
use Rattle.shape_tree.specs.declared.key.Key.TheVariants.{Root, Child}
use Rattle.shape_tree.specs.declared.key.Row.{Row}
use Rattle.shape_tree.specs.Slots.{slots_on}
use Rattle.shape_tree.specs.Layouts.{Lists, Fits, slots_of, root_layout}

-- the shape of a key, over the shapes that stand before it
abbrev pub shape_of : List Shape → Key → Shape
shape_of before (Root class) = root_of class
shape_of before (Child parent edge) = child_of (shape_at before parent) edge

-- the shapes with those of more keys behind
abbrev pub shapes_from : List Shape → List Key → List Shape
shapes_from before [] = before
shapes_from before (key ∷ keys) = shapes_from (before ++ shape_of before key ∷ []) keys

abbrev pub shapes_of : List Key → List Shape
shapes_of keys = shapes_from [] keys

-- the key and the row of a shape, by its number
abbrev pub key_at : List Key → ℕ → Key
key_at keys n = slice_index_or keys n (Root 0)

abbrev pub row_at : List Row → ℕ → Row
row_at rows n = slice_index_or rows n (record { class = 0; shared = false; layout = root_layout })

-- a parent stands before its child
abbrev pub StandsBefore : Key → ℕ → Type 0
StandsBefore (Root class) n = Unit {0}
StandsBefore (Child parent edge) n = parent.0 < n

-- a row says what its shape is
pub record IsRow (tables : Lists) (shape : Shape) (row : Row) : Type 0 where
  pub class : row.class ≡ shape.class
  pub shared : row.shared ≡ is_shared shape.path
  pub fits : Fits tables row.layout
  pub slots : slots_of tables row.layout ≡ slots_on shape.path

-- keys, rows and tables that are those of a tree
pub record IsTree (keys : List Key) (rows : List Row) (tables : Lists) : Type 0 where
  pub store : IsStore (shapes_of keys)
  pub counted : length (shapes_of keys) ≡ length keys
  pub even : length rows ≡ length keys
  pub before : (n : ℕ) → n < length keys → StandsBefore (key_at keys n) n
  pub named : (n : ℕ) → n < length keys → slice_index_or (shapes_of keys) n (root_of 0) ≡ shape_of (shapes_of keys) (key_at keys n)
  pub kept : (n : ℕ) → n < length keys → IsRow tables (slice_index_or (shapes_of keys) n (root_of 0)) (row_at rows n)
