-- The rule of a shape: what never changes in it, and where its links lead.
use Rattle.std.specs.Prelude.{◌≡◌, ◌<◌, ◌⊎◌, ℕ, ◌+◌, ◌^◌, Bool, true, false, List, [], ◌∷◌, Option, Some, None}
use Rattle.rb_shared.specs.Lists.{Has, Each}
use Rattle.shape_core.specs.declared.edge.Edge.{Edge}
use Rattle.shape_core.specs.declared.edge.Edge.TheVariants.{Add, Widen, Share}
use Rattle.shape_core.specs.declared.edge.Kind.TheVariants.{IntLoc, AnyLoc}
use Rattle.shape_core.specs.Path.{Path, IsPath, places_of, is_shared}
use Rattle.shape_core.specs.Shape.{Shape}
use Rattle.typed_location.specs.Word.{tagged}
use Rattle.heap_core.specs.Blocks.{Block, ShapeAt, LinkAt}
use Rattle.heap_core.specs.Moment.{Moment, word}

-- ---- what never changes

-- the class of a shape, and whether several threads may use its objects
abbrev pub flagged : ℕ → Bool → ℕ
flagged class false = tagged 0 class
flagged class true = tagged 1 class

-- the edge that leads to a shape, with its name
abbrev pub edge_word : Edge → ℕ
edge_word (Add name IntLoc) = tagged 1 name.0
edge_word (Add name AnyLoc) = tagged 2 name.0
edge_word (Widen name) = tagged 3 name.0
edge_word Share = 4

-- the class and each name have 32 bits
abbrev pub IsNarrowEdge : Edge → Type 0
IsNarrowEdge (Add name kind) = name.0 < 2 ^ 32
IsNarrowEdge (Widen name) = name.0 < 2 ^ 32
IsNarrowEdge Share = Unit {0}

abbrev pub IsNarrow : Shape → Type 0
IsNarrow shape = (shape.class < 2 ^ 32) × Each IsNarrowEdge shape.path

-- parent, edge and place: none of a root; of another, the shape before the edge, and the first place that this has not
abbrev pub Leads : Moment → ℕ → Path → ℕ → Type 0
Leads m class [] at = (word m (at + 1) ≡ 0) × (word m (at + 2) ≡ 0) × (word m (at + 3) ≡ 0)
Leads m class (edge ∷ path) at = Has m.blocks (ShapeAt (record { class = class; path = path }) (word m (at + 1))) × (word m (at + 2) ≡ edge_word edge) × (word m (at + 3) ≡ places_of path)

-- ---- links, which are stored once

abbrev pub first_child : ℕ → ℕ
first_child at = at + 5

abbrev pub next_sibling : ℕ → ℕ
next_sibling at = at + 6

-- a link word is 0, or that of a link
abbrev pub IsLink : List Block → (home link w : ℕ) → Type 0
IsLink bs home link w = (w ≡ 0) ⊎ ((number : ℕ) × Has bs (LinkAt home link w number))

-- the shape with one edge less, where there is one
abbrev pub parent_on : ℕ → Path → Option Shape
parent_on class [] = None
parent_on class (edge ∷ path) = Some (record { class = class; path = path })

abbrev pub parent_of : Shape → Option Shape
parent_of shape = parent_on shape.class shape.path

-- The rule of a shape.
pub record ShapeStands (m : Moment) (shape : Shape) (at : ℕ) : Type 0 where
  pub narrow : IsNarrow shape
  -- each edge was allowed where it stands
  pub legal : IsPath shape.path
  pub tag : word m at ≡ flagged shape.class (is_shared shape.path)
  pub leads : Leads m shape.class shape.path at
  pub count : word m (at + 4) ≡ places_of shape.path
  pub child : IsLink m.blocks at (first_child at) (word m (first_child at))
  pub sibling : IsLink m.blocks at (next_sibling at) (word m (next_sibling at))
