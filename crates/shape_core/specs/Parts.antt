-- The parts of an edge as numbers, for hashes.
use Rattle.std.specs.Prelude.{ℕ}
use Rattle.shape_core.specs.declared.edge.Kind.TheVariants.{IntLoc, AnyLoc}
use Rattle.shape_core.specs.declared.edge.Edge.{Edge}
use Rattle.shape_core.specs.declared.edge.Edge.TheVariants.{Add, Widen, Share}

-- which of the edges one is, apart from its name
abbrev pub number_of : Edge → ℕ
number_of (Add name IntLoc) = 0
number_of (Add name AnyLoc) = 1
number_of (Widen name) = 2
number_of Share = 3

-- the number of its name, 0 where it has none
abbrev pub name_of : Edge → ℕ
name_of (Add name kind) = name.0
name_of (Widen name) = name.0
name_of Share = 0
