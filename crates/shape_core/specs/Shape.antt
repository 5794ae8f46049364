-- Shapes, and the shapes of a store in the order of making.
use Rattle.std.specs.Prelude.{◌≡◌, ℕ, ◌<◌, nat_eq, ◌==◌, Bool, true, false, ◌&&◌, if◌then◌else◌, List, [], ◌∷◌, ◌++◌, Option, None, ◌⊎◌, length, slice_index_or, Contains, IsSomeAnd}
use Rattle.std.specs.List.{list_any}
use Rattle.shape_core.specs.declared.edge.Kind.{Kind}
use Rattle.shape_core.specs.declared.edge.Kind.TheVariants.{IntLoc, AnyLoc}
use Rattle.shape_core.specs.declared.edge.Edge.{Edge}
use Rattle.shape_core.specs.declared.edge.Edge.TheVariants.{Add, Widen, Share}
use Rattle.shape_core.specs.declared.facts.ShapeId.{ShapeId}
use Rattle.shape_core.specs.Path.{Path, IsPath}

-- a shape: the class of its objects, and its path
pub record Shape : Type 0 where
  pub class : ℕ
  pub path : Path

-- the root shape of a class
abbrev pub root_of : ℕ → Shape
root_of class = record { class = class; path = [] }

-- the shape that an edge leads to
abbrev pub child_of : Shape → Edge → Shape
child_of shape edge = record { class = shape.class; path = edge ∷ shape.path }

-- the shape with a number
abbrev pub shape_at : List Shape → ShapeId → Shape
shape_at shapes id = slice_index_or shapes id.0 (root_of 0)

-- and its path
abbrev pub path_at : List Shape → ShapeId → Path
path_at shapes id = (shape_at shapes id).path

-- the shape has this number
abbrev pub Has : List Shape → ShapeId → Shape → Type 0
Has shapes id shape = (id.0 < length shapes) × (shape_at shapes id ≡ shape)

-- A list of shapes has a shape now: as it was where it had it before, and else with just this one behind.
abbrev pub Gains : List Shape → Shape → List Shape → Type 0
Gains old shape new = (Contains old shape × (new ≡ old)) ⊎ ((¬ Contains old shape) × (new ≡ old ++ shape ∷ []))

-- whether two shapes are one: their classes, and their paths edge by edge
abbrev pub same_kind : Kind → Kind → Bool
same_kind IntLoc IntLoc = true
same_kind AnyLoc AnyLoc = true
same_kind kind other = false

abbrev pub same_edge : Edge → Edge → Bool
same_edge (Add name kind) (Add other kind') = name.0 == other.0 && same_kind kind kind'
same_edge (Widen name) (Widen other) = name.0 == other.0
same_edge Share Share = true
same_edge edge other = false

abbrev pub same_path : Path → Path → Bool
same_path [] [] = true
same_path (edge ∷ path) (other ∷ path') = same_edge edge other && same_path path path'
same_path path other = false

abbrev pub same_shape : Shape → Shape → Bool
same_shape shape other = nat_eq shape.class other.class && same_path shape.path other.path

-- shapes with one more behind, unless it is among them
abbrev pub with_shape : List Shape → Shape → List Shape
with_shape shapes shape = if list_any (same_shape shape) shapes then shapes else shapes ++ shape ∷ []

-- the number, if any, is that of the shape with one edge less
abbrev pub IsParentOf : List Shape → ℕ → Path → Option ShapeId → Type 0
IsParentOf shapes class [] parent = parent ≡ None
IsParentOf shapes class (edge ∷ path) parent = IsSomeAnd parent (λ id. Has shapes id (record { class = class; path = path }))

abbrev pub IsParent : List Shape → Shape → Option ShapeId → Type 0
IsParent shapes shape parent = IsParentOf shapes shape.class shape.path parent

-- The shapes of a store: all differ, the path of each is one, and each stands behind the shape with one edge less.
pub record IsStore (shapes : List Shape) : Type 0 where
  pub distinct : (id other : ShapeId) → id.0 < length shapes → other.0 < length shapes
      → shape_at shapes id ≡ shape_at shapes other → id ≡ other
  pub paths : (id : ShapeId) → id.0 < length shapes → IsPath (path_at shapes id)
  pub parents : (id : ShapeId) (edge : Edge) (path : Path) → id.0 < length shapes → path_at shapes id ≡ edge ∷ path
      → (parent : ShapeId) × (parent.0 < id.0) × (shape_at shapes parent ≡ record { class = (shape_at shapes id).class; path = path })
