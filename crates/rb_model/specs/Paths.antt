-- The path of an object, as writes to its fields make it, in the words of the object storage model.
use Rattle.std.specs.Prelude.{◌∷◌, Option, Some, None}
use Rattle.rb_tree.specs.declared.span.NameId.{NameId}
use Rattle.rb_model.specs.Values.{Value as Val, Int}
use Rattle.rb_model.specs.Acts.{Act, SetField}
use Rattle.rb_model.specs.Things.{Thing, Object}
use Rattle.shape_core.specs.declared.edge.Kind.{Kind}
use Rattle.shape_core.specs.declared.edge.Kind.TheVariants.{IntLoc, AnyLoc}
use Rattle.shape_core.specs.declared.edge.Edge.TheVariants.{Add, Widen}
use Rattle.shape_core.specs.Path.{Path, kind_on}
use Rattle.shape_core.specs.Shape.{Shape, root_of}

-- The first write of a name adds it, with a place for integers where the value is one. The first other value at a place for integers
-- widens the name. Else the path stays.
abbrev pub path_with : Option Kind → Path → NameId → Val → Path
path_with None path name (Int n) = Add name IntLoc ∷ path
path_with None path name v = Add name AnyLoc ∷ path
path_with (Some IntLoc) path name (Int n) = path
path_with (Some IntLoc) path name v = Widen name ∷ path
path_with (Some AnyLoc) path name v = path

-- the path behind a write
abbrev pub path_behind : Path → NameId → Val → Path
path_behind path name v = path_with (kind_on path name) path name v

-- the shape of an object that is made, which has no fields yet; other things have none
abbrev pub shape_made : Thing → Option Shape
shape_made (Object class fields) = Some (root_of class)
shape_made thing = None

-- the shape of an object behind an act
abbrev pub shape_behind : Act → Shape → Shape
shape_behind (SetField name v) shape = record { class = shape.class; path = path_behind shape.path name v }
shape_behind act shape = shape
