-- What walks along rows of shapes find.
use Rattle.std.specs.Prelude.{◌≡◌, ◌≢◌, ◌⊎◌, ℕ, List, Option, Some}
use Rattle.rb_shared.specs.Lists.{Has}
use Rattle.shape_core.specs.Shape.{Shape}
use Rattle.heap_core.specs.Blocks.{Block, ShapeAt, LinkAt}
use Rattle.heap_core.specs.Fixed.{fixed_word}
use Rattle.heap_core.specs.Growing.{MayLink}
use Rattle.heap_core.specs.Links.{IsNth, IsTree}
use Rattle.heap_core.specs.Shapes.{parent_of}
use Rattle.heap_core.specs.View.{Holder, Knows}
use Rattle.shape_intern.specs.declared.seeking.Sought.{Sought}
use Rattle.shape_intern.specs.declared.seeking.Sought.TheVariants as sought

-- a shape is known at this place
abbrev pub KnowsShapeAt : Holder → ℕ → Type 0
KnowsShapeAt k at = (shape : Shape) × Knows k (ShapeAt shape at)

-- the shapes that a pass knows are a tree
abbrev pub KnowsTree : Holder → Type 0
KnowsTree k = IsTree k.size k.blocks

abbrev pub IsMissing : List Block → Shape → Type 0
IsMissing bs shape = (at : ℕ) → Has bs (ShapeAt shape at) → ⊥

-- ---- rows

-- A row is that of the children of a shape, or that of the roots. The shape at this place is the number-th of it.
abbrev pub IsInRow : List Block → Option Shape → (number at : ℕ) → Type 0
IsInRow bs row number at = IsNth bs number at × ((shape : Shape) × Has bs (ShapeAt shape at) × (parent_of shape ≡ row))

-- the row ends with this link word, behind which the shape may be linked
abbrev pub Ends : List Block → Option Shape → ℕ → Type 0
Ends bs row link =
    ((from to number : ℕ) → Has bs (LinkAt from link to number) → ⊥)
    × ((home : ℕ) × (before : Shape) × (number : ℕ) × Has bs (ShapeAt before home) × ((shape : Shape) → parent_of shape ≡ row → MayLink bs before shape home link number))

-- the row begins at this place, or is empty: then the place is 0, and the row ends with the link word
abbrev pub IsBegun : List Block → Option Shape → (first link : ℕ) → Type 0
IsBegun bs row first link = ((first ≢ 0) × IsInRow bs row 0 first) ⊎ ((first ≡ 0) × Ends bs row link × ((at : ℕ) → IsInRow bs row 0 at → ⊥))

-- a word so far behind its place tells the shape from each other of its row
abbrev pub Tells : Option Shape → Shape → (behind word : ℕ) → Type 0
Tells row shape behind word = (parent_of shape ≡ row) × ((other : Shape) (at : ℕ) → parent_of other ≡ row → (x : ℕ) × (fixed_word (ShapeAt other at) behind ≡ Some x) × (x ≡ word → other ≡ shape) × (other ≡ shape → x ≡ word))

-- the shape is there, or it is missing and its row ends
abbrev pub IsSought : List Block → Option Shape → Shape → Sought → Type 0
IsSought bs row shape (sought.Found at) = Has bs (ShapeAt shape at)
IsSought bs row shape (sought.Missing link) = IsMissing bs shape × Ends bs row link
