-- The laws of places.
use Rattle.std.proofs.Common.{◌≡◌, ◌≢◌, ℕ, suc, ◌<◌, ◌==◌, Bool, true, cond, [], ◌∷◌, ◌++◌, Option, Some, inl, inr, ap, sym, ◌∙◌, arith}
use Rattle.std.specs.Prelude.{IsTrue}
use Rattle.std.proofs.lemmas.Bool.{eq-eqb}
use Rattle.rb_tree.specs.declared.span.NameId.{NameId}
use Rattle.shape_core.specs.declared.edge.Kind.{Kind}
use Rattle.shape_core.specs.declared.edge.Kind.TheVariants.{AnyLoc}
use Rattle.shape_core.specs.declared.edge.Edge.{Edge}
use Rattle.shape_core.specs.declared.edge.Edge.TheVariants.{Add, Widen, Share}
use Rattle.shape_core.specs.declared.facts.Place.{Place}
use Rattle.shape_core.specs.Path.{Path, places_of, next_place, find_on}
use Rattle.shape_core.specs.Laws.{StandsBelowNext, StandsApart, GivesOnce, RetiresForGood, gives_place}
use Rattle.shape_core.proofs.Paths.{Found, found_cases, same_name, places_grow}

below_step : (here : Bool) (n : ℕ) (k : Kind) (rest : Option Found) (found : Found)
    → (rest ≡ Some found → found.0.0 < n) → cond here (Some (record { 0 = n }, k)) rest ≡ Some found → found.0.0 < suc n
below_step here n k rest found older h =
    elim (found_cases here n k rest found h) [ inl w ↦ omega (arith, w.1) | inr w ↦ omega (arith, older w.1) ]

-- the place of a name is below the next one
pub below : StandsBelowNext
below [] name place kind h = absurd (cc)
below (Add other k ∷ path) name place kind h =
    below_step (other.0 == name.0) (places_of path) k (find_on path name) (place, kind) (below path name place kind) h
below (Widen other ∷ path) name place kind h =
    below_step (other.0 == name.0) (places_of path) AnyLoc (find_on path name) (place, kind) (below path name place kind) h
below (Share ∷ path) name place kind h = below path name place kind h

apart_step : (given name other : NameId) (path : Path) (k : Kind) (place : Place) (kind kind' : Kind)
    → (find_on path name ≡ Some (place, kind) → find_on path other ≡ Some (place, kind') → name ≡ other)
    → cond (given.0 == name.0) (Some (next_place path, k)) (find_on path name) ≡ Some (place, kind)
    → cond (given.0 == other.0) (Some (next_place path, k)) (find_on path other) ≡ Some (place, kind') → name ≡ other
apart_step given name other path k place kind kind' older h h' =
    let n = places_of path in
    elim (found_cases (given.0 == name.0) n k (find_on path name) (place, kind) h) [
      | inl v ↦ elim (found_cases (given.0 == other.0) n k (find_on path other) (place, kind') h') [
        | inl w ↦ sym (same_name given name v.0) ∙ same_name given other w.0
        | inr w ↦ absurd (omega (arith, v.1, below path other place kind' w.1))
      ]
      | inr v ↦ elim (found_cases (given.0 == other.0) n k (find_on path other) (place, kind') h') [
        | inl w ↦ absurd (omega (arith, w.1, below path name place kind v.1))
        | inr w ↦ older v.1 w.1
      ]
    ]

-- two names do not stand at one place
pub apart : StandsApart
apart [] name other place kind kind' h h' = absurd (cc)
apart (Add given k ∷ path) name other place kind kind' h h' =
    apart_step given name other path k place kind kind' (apart path name other place kind kind') h h'
apart (Widen given ∷ path) name other place kind kind' h h' =
    apart_step given name other path AnyLoc place kind kind' (apart path name other place kind kind') h h'
apart (Share ∷ path) name other place kind kind' h h' = apart path name other place kind kind' h h'

-- an edge that gives a place leaves more places behind it
given_grows : (edge : Edge) (path : Path) → IsTrue (gives_place edge) → places_of path < places_of (edge ∷ path)
given_grows (Add name kind) path h = omega arith
given_grows (Widen name) path h = omega arith
given_grows Share path h = absurd (cc)

more_places : (later path before : Path) (edge : Edge) → IsTrue (gives_place edge) → path ≡ later ++ edge ∷ before → places_of before < places_of path
more_places later path before edge gives e =
    omega (arith, given_grows edge before gives, places_grow later (edge ∷ before), ap places_of e)

-- no place is given twice
pub once : GivesOnce
once [] [] edge other path before e gives gives' same = cc
once [] (x ∷ after) edge other path before e gives gives' same =
    let deeper : path ≡ after ++ other ∷ before = cc in
    absurd (omega (arith, more_places after path before other gives' deeper, ap (λ (p : Place). p.0) same))
once (x ∷ later) [] edge other path before e gives gives' same =
    let deeper : before ≡ later ++ edge ∷ path = cc in
    absurd (omega (arith, more_places later before path edge gives deeper, ap (λ (p : Place). p.0) same))
once (x ∷ later) (y ∷ after) edge other path before e gives gives' same =
    let rest : later ++ edge ∷ path ≡ after ++ other ∷ before = cc in
    once later after edge other path before rest gives gives' same

retired_step : (given other : NameId) (path longer : Path) (k : Kind) (place place' : Place) (kind' : Kind)
    → place.0 < places_of longer → (find_on longer other ≡ Some (place', kind') → place ≢ place')
    → cond (given.0 == other.0) (Some (next_place longer, k)) (find_on longer other) ≡ Some (place', kind') → place ≢ place'
retired_step given other path longer k place place' kind' small older h =
    elim (found_cases (given.0 == other.0) (places_of longer) k (find_on longer other) (place', kind') h) [
      | inl w ↦ λ e. omega (arith, w.1, ap (λ (p : Place). p.0) e)
      | inr w ↦ older w.1
    ]

-- where the name itself was widened, another name is found at another place
retired_now : (path : Path) (name other : NameId) (place place' : Place) (kind kind' : Kind)
    → find_on path name ≡ Some (place, kind) → find_on (Widen name ∷ path) other ≡ Some (place', kind') → place ≢ place'
retired_now path name other place place' kind kind' at h same =
    elim (found_cases (name.0 == other.0) (places_of path) AnyLoc (find_on path other) (place', kind') h) [
      | inl w ↦ omega (arith, w.1, ap (λ (p : Place). p.0) same, below path name place kind at)
      | inr w ↦
          let there : find_on path other ≡ Some (place, kind') = w.1 ∙ ap (λ (p : Place). Some (p, kind')) (sym same) in
          let one : name ≡ other = apart path name other place kind kind' at there in
          let e : (name.0 == other.0) ≡ true = eq-eqb name.0 other.0 (ap (λ (n : NameId). n.0) one) in
          cc
    ]

-- a place that a widening left is never again the place of a name
pub retired : RetiresForGood
retired [] path name other place place' kind kind' at h = retired_now path name other place place' kind kind' at h
retired (Add given k ∷ later) path name other place place' kind kind' at h =
    retired_step given other path (later ++ Widen name ∷ path) k place place' kind'
    (omega (arith, below path name place kind at, places_grow later (Widen name ∷ path)))
    (retired later path name other place place' kind kind' at) h
retired (Widen given ∷ later) path name other place place' kind kind' at h =
    retired_step given other path (later ++ Widen name ∷ path) AnyLoc place place' kind'
    (omega (arith, below path name place kind at, places_grow later (Widen name ∷ path)))
    (retired later path name other place place' kind kind' at) h
retired (Share ∷ later) path name other place place' kind kind' at h =
    retired later path name other place place' kind kind' at h
