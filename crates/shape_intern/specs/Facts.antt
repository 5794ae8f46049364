-- What is told of a shape.
use Rattle.std.specs.Prelude.{◌≡◌, ◌==◌, ℕ, List, Option, Some, None, if◌then◌else◌}
use Rattle.rb_shared.specs.Lists.{Has}
use Rattle.rb_tree.specs.declared.span.NameId.{NameId}
use Rattle.shape_core.specs.declared.edge.Edge.{Edge}
use Rattle.shape_core.specs.declared.edge.Edge.TheVariants.{Add, Widen, Share}
use Rattle.shape_core.specs.declared.edge.Kind.{Kind}
use Rattle.shape_core.specs.declared.edge.Kind.TheVariants.{AnyLoc}
use Rattle.shape_core.specs.Path.{IsPath, is_shared, last_edge, places_of}
use Rattle.shape_core.specs.Shape.{Shape}
use Rattle.heap_core.specs.Blocks.{Block, ShapeAt}
use Rattle.heap_core.specs.Shapes.{parent_of}
use Rattle.shape_intern.specs.declared.telling.ShapeFacts.{ShapeFacts}

-- what the place holds that an edge gives to a name
abbrev pub gives : Edge → NameId → Option Kind
gives (Add other kind) name = if other.0 == name.0 then Some kind else None
gives (Widen other) name = if other.0 == name.0 then Some AnyLoc else None
gives Share name = None

-- the place of the shape before an edge, by the word of that edge
abbrev pub parent_by : (word up : ℕ) → Option ℕ
parent_by word up = if word == 0 then None else Some up

-- the parent of a root is none, and of another shape the place of the one with one edge less
abbrev pub IsParent : List Block → Option Shape → Option ℕ → Type 0
IsParent bs None parent = parent ≡ None
IsParent bs (Some shape) parent = (at : ℕ) × (parent ≡ Some at) × Has bs (ShapeAt shape at)

pub record AreFacts (bs : List Block) (shape : Shape) (facts : ShapeFacts) : Type 0 where
  pub class : facts.class ≡ shape.class
  pub edge : facts.edge ≡ last_edge shape.path
  pub parent : IsParent bs (parent_of shape) facts.parent
  pub places : facts.places ≡ places_of shape.path
  pub shared : facts.shared ≡ is_shared shape.path
  -- each edge was allowed where it stands
  pub legal : IsPath shape.path
