-- The laws of shapes, for all paths.
use Rattle.std.specs.Prelude.{◌≡◌, ◌≢◌, ◌<◌, Bool, true, false, List, ◌∷◌, ◌++◌, Some, ◌↔◌, IsTrue, IsSome, Contains, length}
use Rattle.rb_tree.specs.declared.span.NameId.{NameId}
use Rattle.shape_core.specs.declared.edge.Kind.{Kind}
use Rattle.shape_core.specs.declared.edge.Kind.TheVariants.{AnyLoc}
use Rattle.shape_core.specs.declared.edge.Edge.{Edge}
use Rattle.shape_core.specs.declared.edge.Edge.TheVariants.{Add, Widen, Share}
use Rattle.shape_core.specs.declared.facts.Place.{Place}
use Rattle.shape_core.specs.declared.facts.ShapeId.{ShapeId}
use Rattle.shape_core.specs.Path.{Path, places_of, next_place, find_on, IsPath}
use Rattle.shape_core.specs.Shape.{Shape, Gains, IsStore, same_shape, shape_at, with_shape}

-- whether an edge gives a place
abbrev pub gives_place : Edge → Bool
gives_place (Add name kind) = true
gives_place (Widen name) = true
gives_place Share = false

-- a path adds a name
abbrev pub Adds : Path → NameId → Type 0
Adds path name = (kind : Kind) × Contains path (Add name kind)

-- An edge that gives a place gives its name the next one.
abbrev pub GivesNextPlace : Type 0
GivesNextPlace = (path : Path) (name : NameId) (kind : Kind)
    → (find_on (Add name kind ∷ path) name ≡ Some (next_place path, kind)) × (find_on (Widen name ∷ path) name ≡ Some (next_place path, AnyLoc))

-- The place of a name is below the next one.
abbrev pub StandsBelowNext : Type 0
StandsBelowNext = (path : Path) (name : NameId) (place : Place) (kind : Kind)
    → find_on path name ≡ Some (place, kind) → place.0 < places_of path

-- No place is given twice: where two edges of one path gave the same place, what stood before them is the same.
abbrev pub GivesOnce : Type 0
GivesOnce = (later after : Path) (edge other : Edge) (path before : Path)
    → later ++ edge ∷ path ≡ after ++ other ∷ before → IsTrue (gives_place edge) → IsTrue (gives_place other)
    → next_place path ≡ next_place before → path ≡ before

-- Two names do not stand at one place.
abbrev pub StandsApart : Type 0
StandsApart = (path : Path) (name other : NameId) (place : Place) (kind kind' : Kind)
    → find_on path name ≡ Some (place, kind) → find_on path other ≡ Some (place, kind') → name ≡ other

-- A name stands at a place exactly where its path adds it.
abbrev pub StandsWhereAdded : Type 0
StandsWhereAdded = (path : Path) (name : NameId) → IsPath path → IsSome (find_on path name) ↔ Adds path name

-- A name is added once, and widened at most once.
abbrev pub AddsOnce : Type 0
AddsOnce = (later path : Path) (name : NameId) (kind kind' : Kind)
    → IsPath (later ++ Add name kind ∷ path) → (¬ Adds path name) × (¬ Contains later (Add name kind'))

abbrev pub WidensOnce : Type 0
WidensOnce = (later path : Path) (name : NameId)
    → IsPath (later ++ Widen name ∷ path) → (¬ Contains path (Widen name)) × (¬ Contains later (Widen name))

-- A place that a widening left is never again the place of a name.
abbrev pub RetiresForGood : Type 0
RetiresForGood = (later path : Path) (name other : NameId) (place place' : Place) (kind kind' : Kind)
    → find_on path name ≡ Some (place, kind) → find_on (later ++ Widen name ∷ path) other ≡ Some (place', kind') → place ≢ place'

-- Only its own widening moves a name that stands at a place.
abbrev pub Stays : Type 0
Stays = (later path : Path) (name : NameId) (place : Place) (kind : Kind)
    → IsPath (later ++ path) → find_on path name ≡ Some (place, kind) → ¬ Contains later (Widen name)
    → find_on (later ++ path) name ≡ Some (place, kind)

-- Two shapes of a store are one exactly where their numbers are.
abbrev pub IdsAreShapes : Type 0
IdsAreShapes = (shapes : List Shape) (id other : ShapeId) → IsStore shapes → id.0 < length shapes → other.0 < length shapes
    → (shape_at shapes id ≡ shape_at shapes other) ↔ (id ≡ other)

-- Two shapes are the same exactly where they are one.
abbrev pub SameAreOne : Type 0
SameAreOne = (shape other : Shape) → (same_shape shape other ≡ true) ↔ (shape ≡ other)

-- A list that gains a shape is the list with it.
abbrev pub GainsIsWith : Type 0
GainsIsWith = (old new : List Shape) (shape : Shape) → Gains old shape new → new ≡ with_shape old shape
