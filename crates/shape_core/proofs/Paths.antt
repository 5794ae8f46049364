-- What `find_on` says, edge by edge.
use Rattle.std.proofs.Common.{◌≡◌, ℕ, ◌≤◌, ◌==◌, Bool, true, false, cond, [], ◌∷◌, ◌++◌, Option, Some, None, ◌⊎◌, inl, inr, refl, ap, arith}
use Rattle.std.specs.Prelude.{IsSome}
use Rattle.std.proofs.lemmas.Bool.{eqb-true, eq-eqb}
use Rattle.rb_tree.specs.declared.span.NameId.{NameId}
use Rattle.shape_core.specs.declared.edge.Kind.{Kind}
use Rattle.shape_core.specs.declared.edge.Edge.TheVariants.{Add, Widen, Share}
use Rattle.shape_core.specs.declared.facts.Place.{Place}
use Rattle.shape_core.specs.Path.{Path, places_of}

-- what `find` answers where there is the name
abbrev pub Found : Type 0
Found = Place × Kind

-- names with one number are one
pub same_name : (name other : NameId) → (name.0 == other.0) ≡ true → name ≡ other
same_name name other h = let by : ℕ → NameId = λ n. record { 0 = n } in ap by (eqb-true name.0 other.0 h)

pub own_name : (name : NameId) → (name.0 == name.0) ≡ true
own_name name = eq-eqb name.0 name.0 refl

-- a look at one edge: it gave the name its place, or an older one did
pub found_cases : (here : Bool) (n : ℕ) (kind : Kind) (rest : Option Found) (found : Found)
    → cond here (Some (record { 0 = n }, kind)) rest ≡ Some found
    → ((here ≡ true) × (n ≡ found.0.0) × (kind ≡ found.1)) ⊎ ((here ≡ false) × (rest ≡ Some found))
found_cases true n kind rest found h =
    let e : ◌≡◌ {A = Found} (record { 0 = n }, kind) found = cc in
    inl (refl, ap (λ (f : Found). f.0.0) e, ap (λ (f : Found). f.1) e)
found_cases false n kind rest found h = inr (refl, h)

-- a name that has a place keeps one
pub found_more : (here : Bool) (found : Found) (rest : Option Found) → IsSome rest → IsSome (cond here (Some found) rest)
found_more true found rest h = refl
found_more false found rest h = h

-- a name that is not found is found in no older path
pub lost_less : (here : Bool) (found : Found) (rest : Option Found) → cond here (Some found) rest ≡ None → (here ≡ false) × (rest ≡ None)
lost_less true found rest h = absurd (cc)
lost_less false found rest h = (refl, h)

-- the older edges of a longer path give no more places
pub places_grow : (later path : Path) → places_of path ≤ places_of (later ++ path)
places_grow [] path = omega arith
places_grow (Add name kind ∷ later) path = omega (arith, places_grow later path)
places_grow (Widen name ∷ later) path = omega (arith, places_grow later path)
places_grow (Share ∷ later) path = places_grow later path
