-- Which shapes are the same, and a list of shapes that gains one.
use Rattle.std.proofs.Common.{◌≡◌, ◌==◌, Bool, true, false, cond, List, [], ◌∷◌, ◌++◌, ◌<◌, ℕ, zero, suc, inl, inr, refl, ap, sym, ◌∙◌, Contains, length, get_or, arith}
use Rattle.std.specs.Prelude.{◌&&◌, ◌||◌, nat_eq}
use Rattle.std.specs.List.{list_any}
use Rattle.std.proofs.lemmas.Bool.{eqb-true, eq-eqb}
use Rattle.shape_core.specs.declared.edge.Kind.{Kind}
use Rattle.shape_core.specs.declared.edge.Kind.TheVariants.{IntLoc, AnyLoc}
use Rattle.shape_core.specs.declared.edge.Edge.{Edge}
use Rattle.shape_core.specs.declared.edge.Edge.TheVariants.{Add, Widen, Share}
use Rattle.shape_core.specs.Path.{Path}
use Rattle.shape_core.specs.Shape.{Shape, same_kind, same_edge, same_path, same_shape}
use Rattle.shape_core.specs.Laws.{SameAreOne, GainsIsWith}
use Rattle.shape_core.proofs.Paths.{same_name, own_name}

both : (a b : Bool) → (a && b) ≡ true → (a ≡ true) × (b ≡ true)
both true true e = (refl, refl)
both true false e = absurd (cc)
both false b e = absurd (cc)

kinds_one : (kind other : Kind) → same_kind kind other ≡ true → kind ≡ other
kinds_one IntLoc IntLoc e = refl
kinds_one IntLoc AnyLoc e = absurd (cc)
kinds_one AnyLoc IntLoc e = absurd (cc)
kinds_one AnyLoc AnyLoc e = refl

kind_itself : (kind : Kind) → same_kind kind kind ≡ true
kind_itself IntLoc = refl
kind_itself AnyLoc = refl

edges_one : (edge other : Edge) → same_edge edge other ≡ true → edge ≡ other
edges_one (Add name kind) (Add name' kind') e =
    let parts = both (name.0 == name'.0) (same_kind kind kind') e in
    ap (λ n. Add n kind) (same_name name name' parts.0) ∙ ap (Add name') (kinds_one kind kind' parts.1)
edges_one (Widen name) (Widen name') e = ap Widen (same_name name name' e)
edges_one Share Share e = refl
edges_one (Add name kind) (Widen name') e = absurd (cc)
edges_one (Add name kind) Share e = absurd (cc)
edges_one (Widen name) (Add name' kind') e = absurd (cc)
edges_one (Widen name) Share e = absurd (cc)
edges_one Share (Add name' kind') e = absurd (cc)
edges_one Share (Widen name') e = absurd (cc)

edge_itself : (edge : Edge) → same_edge edge edge ≡ true
edge_itself (Add name kind) = ap (λ b. b && same_kind kind kind) (own_name name) ∙ kind_itself kind
edge_itself (Widen name) = own_name name
edge_itself Share = refl

paths_one : (path other : Path) → same_path path other ≡ true → path ≡ other
paths_one [] [] e = refl
paths_one [] (x ∷ other) e = absurd (cc)
paths_one (x ∷ path) [] e = absurd (cc)
paths_one (x ∷ path) (y ∷ other) e =
    let parts = both (same_edge x y) (same_path path other) e in
    ap (λ z. z ∷ path) (edges_one x y parts.0) ∙ ap (λ rest. y ∷ rest) (paths_one path other parts.1)

path_itself : (path : Path) → same_path path path ≡ true
path_itself [] = refl
path_itself (x ∷ path) = ap (λ b. b && same_path path path) (edge_itself x) ∙ path_itself path

shapes_one : (shape other : Shape) → same_shape shape other ≡ true → shape ≡ other
shapes_one shape other e =
    let parts = both (nat_eq shape.class other.class) (same_path shape.path other.path) e in
    let by : ℕ → Path → Shape = λ class path. record { class = class; path = path } in
    ap (λ class. by class shape.path) (eqb-true shape.class other.class parts.0) ∙ ap (by other.class) (paths_one shape.path other.path parts.1)

shape_itself : (shape : Shape) → same_shape shape shape ≡ true
shape_itself shape = ap (λ b. b && same_path shape.path shape.path) (eq-eqb shape.class shape.class refl) ∙ path_itself shape.path

-- shapes are the same exactly where they are one
pub same_are_one : SameAreOne
same_are_one shape other = (shapes_one shape other, λ e. ap (same_shape shape) (sym e) ∙ shape_itself shape)

-- a list has a shape exactly where one of its shapes is the same
any_there : (shapes : List Shape) (shape : Shape) (k : ℕ) (d : Shape) → k < length shapes → get_or shapes k d ≡ shape → list_any (same_shape shape) shapes ≡ true
any_there [] shape k d h e = absurd (omega (arith, h))
any_there (s ∷ shapes) shape zero d h e = ap (λ b. b || list_any (same_shape shape) shapes) (ap (same_shape shape) e ∙ shape_itself shape)
any_there (s ∷ shapes) shape (suc k) d h e = by (same_shape shape s) (any_there shapes shape k d (omega (arith, h)) e)
  where
    by : (b : Bool) → list_any (same_shape shape) shapes ≡ true → (b || list_any (same_shape shape) shapes) ≡ true
    by true e = refl
    by false e = e

there_any : (shapes : List Shape) (shape : Shape) → list_any (same_shape shape) shapes ≡ true → Contains shapes shape
there_any [] shape e = absurd (cc)
there_any (s ∷ shapes) shape e = by (same_shape shape s) refl e (there_any shapes shape)
  where
    by : (b : Bool) → same_shape shape s ≡ b → (b || list_any (same_shape shape) shapes) ≡ true
        → (list_any (same_shape shape) shapes ≡ true → Contains shapes shape) → Contains (s ∷ shapes) shape
    by true is e deeper = (zero, omega arith, sym (shapes_one shape s is))
    by false is e deeper = let older = deeper e in (suc older.0, omega (arith, older.1), older.2)

-- what gains a shape is with it
pub gains_is_with : GainsIsWith
gains_is_with old new shape (inl w) =
    w.1 ∙ ap (λ b. cond b old (old ++ shape ∷ [])) (sym (any_there old shape w.0.0 shape w.0.1 w.0.2))
gains_is_with old new shape (inr w) = w.1 ∙ by (list_any (same_shape shape) old) refl
  where
    by : (b : Bool) → list_any (same_shape shape) old ≡ b → old ++ shape ∷ [] ≡ cond b old (old ++ shape ∷ [])
    by true e = absurd (w.0 (there_any old shape e))
    by false e = refl
