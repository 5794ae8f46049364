-- By what a shape is known.
use Rattle.std.specs.Prelude.{ℕ, zero, suc, List, [], ◌∷◌, ◌++◌, Option, Some, None}
use Rattle.shape_core.specs.declared.edge.Edge.{Edge}
use Rattle.shape_core.specs.declared.facts.ShapeId.{ShapeId}
use Rattle.shape_tree.specs.declared.key.Key.{Key}
use Rattle.shape_tree.specs.declared.key.Key.TheVariants.{Root, Child}

-- the parent, which a root has not
abbrev pub parent_of : Key → Option ShapeId
parent_of (Root class) = None
parent_of (Child parent edge) = Some parent

-- the newest edge, which a root has not
abbrev pub edge_of : Key → Option Edge
edge_of (Root class) = None
edge_of (Child parent edge) = Some edge
