-- The fields of an object: its path, and what stands at its places.
use Rattle.std.specs.Prelude.{◌≡◌, ℕ, ℤ, Bool, true, false, List, [], ◌∷◌, map, Option, Some, None}
use Rattle.std.specs.Option.{option_map}
use Rattle.rb_tree.specs.declared.span.NameId.{NameId}
use Rattle.rb_model.specs.Values.{Value as Val, Nil, Int}
use Rattle.rb_model.specs.Things.{Field, with_field}
use Rattle.shape_core.specs.declared.edge.Kind.{Kind}
use Rattle.shape_core.specs.declared.edge.Kind.TheVariants.{IntLoc, AnyLoc}
use Rattle.shape_core.specs.declared.edge.Edge.{Edge}
use Rattle.shape_core.specs.declared.edge.Edge.TheVariants.{Add, Widen, Share}
use Rattle.shape_core.specs.declared.facts.Place.{Place}
use Rattle.shape_core.specs.Path.{Path, find_on, kind_on, names_on}
use Rattle.local_heap.specs.Words.{IsSum, integer_of, any_of}
use Rattle.local_heap.specs.Slots.{Home, Standing, IsWord, meaning}

-- the name that an edge adds, if it adds one
abbrev pub given_name : Option Edge → List NameId
given_name None = []
given_name (Some (Add name kind)) = name ∷ []
given_name (Some (Widen name)) = []
given_name (Some Share) = []

-- the value of what stands at a place, by its kind
abbrev pub value_by : Home → Kind → Standing → Val
value_by home IntLoc slot = Int (integer_of slot.word)
value_by home AnyLoc slot = meaning home slot.whole (any_of slot.word)

abbrev pub is_any : Kind → Bool
is_any IntLoc = false
is_any AnyLoc = true

-- whether the field of a name is wide, where the path has one
abbrev pub wide_in : Path → NameId → Option Bool
wide_in path name = option_map is_any (kind_on path name)

-- the field of a name, by where it was found
abbrev pub field_found : Home → (ℕ → Standing) → NameId → Option (Place × Kind) → Field
field_found home slots name None = record { name = name; value = Nil; wide = false }
field_found home slots name (Some found) = record { name = name; value = value_by home found.1 (slots found.0.0); wide = is_any found.1 }

-- The sum of an integer and the field of a name, by where it was found. There is none but where its place holds integers alone.
abbrev pub IsSumBy : Kind → Standing → ℤ → Option ℤ → Type 0
IsSumBy IntLoc slot n sum = IsSum slot.word n sum
IsSumBy AnyLoc slot n sum = sum ≡ None

abbrev pub IsSumFound : (ℕ → Standing) → Option (Place × Kind) → ℤ → Option ℤ → Type 0
IsSumFound slots None n sum = sum ≡ None
IsSumFound slots (Some found) n sum = IsSumBy found.1 (slots found.0.0) n sum

abbrev pub field_of : Home → Path → (ℕ → Standing) → NameId → Field
field_of home path slots name = field_found home slots name (find_on path name)

-- all fields
abbrev pub fields_of : Home → Path → (ℕ → Standing) → List Field
fields_of home path slots = map (field_of home path slots) (names_on path)

-- At the place of each name that may hold any value there is a word of the heap.
abbrev pub AreWords : Home → Path → (ℕ → Standing) → Type 0
AreWords home path slots = (name : NameId) (place : Place) → find_on path name ≡ Some (place, AnyLoc) → IsWord home (slots place.0)

-- Fields of a heap, before and behind the write of a value to a name.
pub record Wrote (home : Home) (path : Path) (slots : ℕ → Standing) (name : NameId) (v : Val) (path' : Path) (slots' : ℕ → Standing) : Type 0 where
  pub sound : AreWords home path' slots'
  pub fields : fields_of home path' slots' ≡ with_field name v (fields_of home path slots)
