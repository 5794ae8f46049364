-- The rule of a link, and how links make a tree of all shapes: roots and the children of a shape stand in rows, each linked from the one before.
use Rattle.std.specs.Prelude.{◌≡◌, ◌≢◌, ◌≤◌, ◌⊎◌, ℕ, zero, suc, ◌*◌, List, length, Some}
use Rattle.rb_shared.specs.Lists.{Has}
use Rattle.shape_core.specs.Path.{IsPath}
use Rattle.shape_core.specs.Shape.{Shape, root_of}
use Rattle.heap_core.specs.Places.{first_root, shape_words}
use Rattle.heap_core.specs.Blocks.{Block, ShapeAt, LinkAt}
use Rattle.heap_core.specs.Shapes.{IsNarrow, first_child, next_sibling, parent_of}
use Rattle.heap_core.specs.Moment.{Moment, word}

-- the shape at this place is the number-th of its row: the first root, or one to which a link leads
abbrev pub IsNth : List Block → (number at : ℕ) → Type 0
IsNth bs number at = ((number ≡ 0) × (at ≡ first_root)) ⊎ ((home : ℕ) × (link : ℕ) × Has bs (LinkAt home link at number))

-- what a link joins: a shape and its first child, or a shape and the next of its row
abbrev pub Joins : List Block → (home link to number : ℕ) → Type 0
Joins bs home link to zero =
    (link ≡ first_child home) × ((shape : Shape) × (child : Shape) × Has bs (ShapeAt shape home) × Has bs (ShapeAt child to) × (parent_of child ≡ Some shape))
Joins bs home link to (suc n) =
    (link ≡ next_sibling home) × IsNth bs n home × ((shape : Shape) × (other : Shape) × Has bs (ShapeAt shape home) × Has bs (ShapeAt other to) × (parent_of other ≡ parent_of shape))

-- The rule of a link.
abbrev pub LinkStands : Moment → (home link to number : ℕ) → Type 0
LinkStands m home link to number = (word m link ≡ to) × (to ≢ 0) × Joins m.blocks home link to number

-- What the shapes and links among the blocks of a heap are, which has so many words.
pub record IsTree (size : ℕ) (bs : List Block) : Type 0 where
  -- the root of the globals is the first root
  pub root : Has bs (ShapeAt (root_of 4294967295) first_root)
  pub linked : (shape : Shape) (at : ℕ) → Has bs (ShapeAt shape at) → (number : ℕ) × IsNth bs number at
  -- the shape with one edge less is there
  pub up : (shape : Shape) (at : ℕ) (parent : Shape) → Has bs (ShapeAt shape at) → parent_of shape ≡ Some parent → (to : ℕ) × Has bs (ShapeAt parent to)
  pub joins : (home link to number : ℕ) → Has bs (LinkAt home link to number) → Joins bs home link to number
  -- a shape has one number, a link word leads to one shape, a shape is at one place, and a place is one shape's
  pub once : (number other at : ℕ) → IsNth bs number at → IsNth bs other at → number ≡ other
  pub one_end : (home home' link to to' n n' : ℕ) → Has bs (LinkAt home link to n) → Has bs (LinkAt home' link to' n') → to ≡ to'
  pub one_shape : (shape : Shape) (at to : ℕ) → Has bs (ShapeAt shape at) → Has bs (ShapeAt shape to) → at ≡ to
  pub one_at : (shape other : Shape) (at : ℕ) → Has bs (ShapeAt shape at) → Has bs (ShapeAt other at) → shape ≡ other
  -- a row or path is no longer than there is room for shapes, and classes and names have 32 bits
  pub few : (number at : ℕ) → IsNth bs number at → shape_words * number ≤ size
  pub deep : (shape : Shape) (at : ℕ) → Has bs (ShapeAt shape at) → shape_words * length shape.path ≤ size
  pub narrow : (shape : Shape) (at : ℕ) → Has bs (ShapeAt shape at) → IsNarrow shape
  -- and each edge of a path was allowed where it stands
  pub legal : (shape : Shape) (at : ℕ) → Has bs (ShapeAt shape at) → IsPath shape.path
