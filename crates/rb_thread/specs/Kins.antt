-- The threads that a thread has started.
use Rattle.std.specs.Prelude.{◌≡◌, ◌<◌, ℕ, suc, Bool, true, List, [], ◌∷◌, map, set, slice_get, Option, Some, None, if◌then◌else◌}
use Rattle.rb_model.specs.declared.value.Id.{Id}
use Rattle.rb_model.specs.declared.value.Ref.{Ref}
use Rattle.rb_model.specs.Values.{Reference}
use Rattle.rb_model.specs.Immediates.{reference}
use Rattle.rb_model.specs.Started.{thread_id}

-- its number, a reference to its thing, the promise of its child until the pass of that was taken in, and whether it was gathered
pub record Kin (Q : Type 0) : Type 0 where
  pub number : ℕ
  pub thing : Ref
  pub child : Option Q
  pub gathered : Bool

abbrev pub kin : {Q : Type 0} → ℕ → Ref → Option Q → Bool → Kin Q
kin n thing q g = record { number = n; thing = thing; child = q; gathered = g }

-- its pass was taken in
abbrev pub childless : {Q : Type 0} → Kin Q → Kin Q
childless x = kin x.number x.thing None x.gathered

-- it was gathered
abbrev pub done : {Q : Type 0} → Kin Q → Kin Q
done x = kin x.number x.thing x.child true

-- numbers and things, in order
abbrev pub names : {Q : Type 0} → List (Kin Q) → List (ℕ × Reference)
names xs = map (λ x. (x.number, reference x.thing)) xs

-- the things of those that were not gathered
abbrev pub waits : {Q : Type 0} → List (Kin Q) → List Reference
waits [] = []
waits (x ∷ xs) = if x.gathered then waits xs else reference x.thing ∷ waits xs

-- thread t started them one after another, and so many before them: so their ids say the places at which they stand
abbrev pub ArePlaced : {Q : Type 0} → (t count : ℕ) → List (Kin Q) → Type 0
ArePlaced t count [] = Unit {0}
ArePlaced t count (x ∷ xs) = (x.thing.id ≡ thread_id t count) × ArePlaced t (suc count) xs

-- those of an id have no child any more
abbrev pub AreSettled : {Q : Type 0} → Id → List (Kin Q) → Type 0
AreSettled {Q = Q} id xs = (i : ℕ) (x : Kin Q) → slice_get xs i ≡ Some x → x.thing.id ≡ id → x.child ≡ None

-- the first k have none
abbrev pub AreCleared : {Q : Type 0} → ℕ → List (Kin Q) → Type 0
AreCleared {Q = Q} k xs = (i : ℕ) (x : Kin Q) → i < k → slice_get xs i ≡ Some x → x.child ≡ None

-- the one with an id, if there is one, and all the others as they were
pub data Changes {Q : Type 0} (change : Kin Q → Kin Q) (id : Id) (old new : List (Kin Q)) : Type 0 where
  one : (k : ℕ) (x : Kin Q) → slice_get old k ≡ Some x → x.thing.id ≡ id → new ≡ set old k (change x) → Changes change id old new
  none_is : ((i : ℕ) (x : Kin Q) → slice_get old i ≡ Some x → x.thing.id ≡ id → ⊥) → new ≡ old → Changes change id old new

-- the k-th alone is changed, and has no child any more
abbrev pub ChangesAt : {Q : Type 0} → ℕ → (old new : List (Kin Q)) → Type 0
ChangesAt {Q = Q} k old new = (x y : Kin Q) × (slice_get old k ≡ Some x) × (y.child ≡ None) × (new ≡ set old k y)

-- the place of a thread by its id among those that thread t started, where so many were started
abbrev pub IsPlaceOf : (t : ℕ) → Id → (len : ℕ) → Option ℕ → Type 0
IsPlaceOf t id len (Some place) = (place < len) × (id ≡ thread_id t place)
IsPlaceOf t id len None = (place : ℕ) → place < len → id ≡ thread_id t place → ⊥
