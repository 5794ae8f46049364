-- Where fields stand.
use Rattle.std.specs.Prelude.{◌≡◌, ◌==◌, ◌||◌, ℕ, zero, suc, Bool, true, false, List, [], ◌∷◌, map}
use Rattle.rb_tree.specs.declared.span.NameId.{NameId}
use Rattle.rb_model.specs.declared.thing.Field.{Field as Told}
use Rattle.rb_model.specs.Doing.{slot}
use Rattle.rb_model.specs.Things.{Field, Thing, Object}

-- an object of a class with these fields
abbrev pub object_of : ℕ → List Told → Thing
object_of class fields = Object class (map slot fields)

-- whether a field of this name was written
abbrev pub has_field : NameId → List Field → Bool
has_field name [] = false
has_field name (f ∷ fs) = f.name.0 == name.0 || has_field name fs

-- the first field of a name stands at this place
abbrev pub StandsAt : NameId → ℕ → List Field → Type 0
StandsAt name place [] = ⊥
StandsAt name zero (f ∷ fs) = (f.name.0 == name.0) ≡ true
StandsAt name (suc place) (f ∷ fs) = ((f.name.0 == name.0) ≡ false) × StandsAt name place fs
