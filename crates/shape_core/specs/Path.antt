-- The path of a shape: its edges, the newest first, and what they say of each name.
use Rattle.std.specs.Prelude.{◌≡◌, ℕ, suc, ◌==◌, Bool, true, false, List, [], ◌∷◌, ◌++◌, Option, Some, None, if◌then◌else◌}
use Rattle.std.specs.Option.{option_map}
use Rattle.rb_tree.specs.declared.span.NameId.{NameId}
use Rattle.shape_core.specs.declared.edge.Kind.{Kind}
use Rattle.shape_core.specs.declared.edge.Kind.TheVariants.{IntLoc, AnyLoc}
use Rattle.shape_core.specs.declared.edge.Edge.{Edge}
use Rattle.shape_core.specs.declared.edge.Edge.TheVariants.{Add, Widen, Share}
use Rattle.shape_core.specs.declared.facts.Place.{Place}

abbrev pub Path : Type 0
Path = List Edge

-- how many places the edges of a path gave: each Add and each Widen gives one
abbrev pub places_of : Path → ℕ
places_of [] = 0
places_of (Add name kind ∷ path) = suc (places_of path)
places_of (Widen name ∷ path) = suc (places_of path)
places_of (Share ∷ path) = places_of path

-- the next place that no edge of a path gave
abbrev pub next_place : Path → Place
next_place path = record { 0 = places_of path }

-- where a name stands and what its place holds: as the last edge that gave it a place says
abbrev pub find_on : Path → NameId → Option (Place × Kind)
find_on [] name = None
find_on (Add other kind ∷ path) name = if other.0 == name.0 then Some (next_place path, kind) else find_on path name
find_on (Widen other ∷ path) name = if other.0 == name.0 then Some (next_place path, AnyLoc) else find_on path name
find_on (Share ∷ path) name = find_on path name

-- what the place of a name holds, where it has one
abbrev pub kind_on : Path → NameId → Option Kind
kind_on path name = option_map (λ found. found.1) (find_on path name)

-- whether several threads may use the objects of a path
abbrev pub is_shared : Path → Bool
is_shared [] = false
is_shared (Add name kind ∷ path) = is_shared path
is_shared (Widen name ∷ path) = is_shared path
is_shared (Share ∷ path) = true

-- the names of a path, in the order in which it adds them
abbrev pub names_on : Path → List NameId
names_on [] = []
names_on (Add name kind ∷ path) = names_on path ++ name ∷ []
names_on (Widen name ∷ path) = names_on path
names_on (Share ∷ path) = names_on path

-- the newest edge
abbrev pub last_edge : Path → Option Edge
last_edge [] = None
last_edge (edge ∷ path) = Some edge

-- An edge may follow a path: it adds a name that is not there, widens a place for integers, or shares what is not shared.
abbrev pub MayFollow : Path → Edge → Type 0
MayFollow path (Add name kind) = find_on path name ≡ None
MayFollow path (Widen name) = kind_on path name ≡ Some IntLoc
MayFollow path Share = is_shared path ≡ false

-- each edge was allowed where it stands
abbrev pub IsPath : Path → Type 0
IsPath [] = Unit {0}
IsPath (edge ∷ path) = MayFollow path edge × IsPath path
