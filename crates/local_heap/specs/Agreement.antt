-- The shape of a private object says of it what its fields say.
use Rattle.std.specs.Prelude.{◌≡◌, ◌==◌, ℕ, Bool, true, false, if◌then◌else◌, List, [], ◌∷◌, map, Option, Some, None}
use Rattle.std.specs.List.{AllByRecursion}
use Rattle.rb_tree.specs.declared.span.NameId.{NameId}
use Rattle.rb_model.specs.declared.value.Id.{Id}
use Rattle.rb_model.specs.Things.{Thing, Object, Field, is_integer}
use Rattle.rb_model.specs.Private.{Private, held, shape_held}
use Rattle.shape_core.specs.declared.edge.Kind.{Kind}
use Rattle.shape_core.specs.declared.edge.Kind.TheVariants.{IntLoc, AnyLoc}
use Rattle.shape_core.specs.Path.{kind_on, names_on}
use Rattle.shape_core.specs.Shape.{Shape}

abbrev pub is_wide : Option Kind → Bool
is_wide None = false
is_wide (Some IntLoc) = false
is_wide (Some AnyLoc) = true

-- no name stands twice
abbrev pub has_name : NameId → List Field → Bool
has_name name [] = false
has_name name (f ∷ fs) = if f.name.0 == name.0 then true else has_name name fs

abbrev pub AreNamesOnce : List Field → Type 0
AreNamesOnce [] = Unit {0}
AreNamesOnce (f ∷ fs) = (has_name f.name fs ≡ false) × AreNamesOnce fs

-- a field whose value is no integer is wide
abbrev pub IsWideEnough : Field → Type 0
IsWideEnough f = is_integer f.value ≡ false → f.wide ≡ true

-- Its class, the names of its fields in order, each once, and which of them are wide: those whose value is no integer are.
pub record Agrees (shape : Shape) (class : ℕ) (fields : List Field) : Type 0 where
  pub classes : shape.class ≡ class
  pub names : map (λ (f : Field). f.name) fields ≡ names_on shape.path
  pub kinds : AllByRecursion (λ (f : Field). f.wide ≡ is_wide (kind_on shape.path f.name)) fields
  pub once : AreNamesOnce fields
  pub wide : AllByRecursion IsWideEnough fields

-- the same of a thing: an object has a shape, and nothing else has one
abbrev pub AgreesWith : Option Shape → Thing → Type 0
AgreesWith None (Object class fields) = ⊥
AgreesWith (Some shape) (Object class fields) = Agrees shape class fields
AgreesWith shape thing = shape ≡ None

-- the shape of an id agrees with its thing
abbrev pub AgreesAt : Private → Id → Type 0
AgreesAt h id = (thing : Thing) → held h id ≡ Some thing → AgreesWith (shape_held h id) thing
