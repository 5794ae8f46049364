-- The name that an edge adds.
use Rattle.std.specs.Prelude.{List, [], ◌∷◌, Option, Some, None}
use Rattle.rb_tree.specs.declared.span.NameId.{NameId}
use Rattle.shape_core.specs.declared.edge.Edge.{Edge}
use Rattle.shape_core.specs.declared.edge.Edge.TheVariants.{Add, Widen, Share}

-- the name, where there is one
abbrev pub added_by : Option Edge → List NameId
added_by None = []
added_by (Some (Add name kind)) = name ∷ []
added_by (Some (Widen name)) = []
added_by (Some Share) = []
