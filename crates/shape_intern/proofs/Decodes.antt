-- What the words of a shape tell.
use Rattle.std.proofs.Common.{◌≡◌, ◌<◌, ◌==◌, ℕ, ◌/◌, ◌%◌, ◌^◌, Bool, true, false, cond, List, [], ◌∷◌, Some, None, refl, sym, ap, ◌∙◌, arith, eq-eqb, ne_eqb}
use Rattle.rb_shared.specs.Lists.{Each}
use Rattle.rb_tree.specs.declared.span.NameId.{NameId}
use Rattle.shape_core.specs.declared.edge.Edge.{Edge}
use Rattle.shape_core.specs.declared.edge.Edge.TheVariants.{Add, Widen, Share}
use Rattle.shape_core.specs.declared.edge.Kind.TheVariants.{IntLoc, AnyLoc}
use Rattle.shape_core.specs.Path.{Path, last_edge}
use Rattle.heap_core.specs.Blocks.{Block}
use Rattle.heap_core.specs.Fixed.{edge_of}
use Rattle.heap_core.specs.Growing.{LeadsUp}
use Rattle.heap_core.specs.Shapes.{IsNarrowEdge, flagged, parent_of}
use Rattle.shape_intern.specs.Facts.{IsParent, parent_by}

abbrev name_at : ℕ → NameId
name_at n = record { 0 = n }

pub edge_none : (w : ℕ) (path : Path) → w ≡ 0 → w ≡ edge_of path → None ≡ last_edge path
edge_none w [] z e = refl
edge_none w (Add n IntLoc ∷ path) z e = absurd (omega (arith, z, e))
edge_none w (Add n AnyLoc ∷ path) z e = absurd (omega (arith, z, e))
edge_none w (Widen n ∷ path) z e = absurd (omega (arith, z, e))
edge_none w (Share ∷ path) z e = absurd (omega (arith, z, e))

pub edge_int : (w : ℕ) (path : Path) → w % 8 ≡ 1 → w ≡ edge_of path → Some (Add (name_at (w / 8)) IntLoc) ≡ last_edge path
edge_int w [] z e = absurd (omega (arith, z, e))
edge_int w (Add n IntLoc ∷ path) z e = ap (λ (m : ℕ). Some (Add (name_at m) IntLoc)) (let q : w / 8 ≡ n.0 = omega (arith, e) in q)
edge_int w (Add n AnyLoc ∷ path) z e = absurd (omega (arith, z, e))
edge_int w (Widen n ∷ path) z e = absurd (omega (arith, z, e))
edge_int w (Share ∷ path) z e = absurd (omega (arith, z, e))

pub edge_any : (w : ℕ) (path : Path) → w % 8 ≡ 2 → w ≡ edge_of path → Some (Add (name_at (w / 8)) AnyLoc) ≡ last_edge path
edge_any w [] z e = absurd (omega (arith, z, e))
edge_any w (Add n IntLoc ∷ path) z e = absurd (omega (arith, z, e))
edge_any w (Add n AnyLoc ∷ path) z e = ap (λ (m : ℕ). Some (Add (name_at m) AnyLoc)) (let q : w / 8 ≡ n.0 = omega (arith, e) in q)
edge_any w (Widen n ∷ path) z e = absurd (omega (arith, z, e))
edge_any w (Share ∷ path) z e = absurd (omega (arith, z, e))

pub edge_wide : (w : ℕ) (path : Path) → w % 8 ≡ 3 → w ≡ edge_of path → Some (Widen (name_at (w / 8))) ≡ last_edge path
edge_wide w [] z e = absurd (omega (arith, z, e))
edge_wide w (Add n IntLoc ∷ path) z e = absurd (omega (arith, z, e))
edge_wide w (Add n AnyLoc ∷ path) z e = absurd (omega (arith, z, e))
edge_wide w (Widen n ∷ path) z e = ap (λ (m : ℕ). Some (Widen (name_at m))) (let q : w / 8 ≡ n.0 = omega (arith, e) in q)
edge_wide w (Share ∷ path) z e = absurd (omega (arith, z, e))

pub edge_share : (w : ℕ) (path : Path) → (w ≡ 0 → ⊥) → (w % 8 ≡ 1 → ⊥) → (w % 8 ≡ 2 → ⊥) → (w % 8 ≡ 3 → ⊥) → w ≡ edge_of path → Some Share ≡ last_edge path
edge_share w [] z a b c e = absurd (z e)
edge_share w (Add n IntLoc ∷ path) z a b c e = absurd (a (omega (arith, e)))
edge_share w (Add n AnyLoc ∷ path) z a b c e = absurd (b (omega (arith, e)))
edge_share w (Widen n ∷ path) z a b c e = absurd (c (omega (arith, e)))
edge_share w (Share ∷ path) z a b c e = refl

-- the number of the name fits
pub edge_narrow : (w : ℕ) (path : Path) → Each IsNarrowEdge path → w ≡ edge_of path → w / 8 < 2 ^ 32
edge_narrow w [] n e = omega (arith, e)
edge_narrow w (Add name IntLoc ∷ path) n e = let lt = n.0 in omega (arith, e, lt)
edge_narrow w (Add name AnyLoc ∷ path) n e = let lt = n.0 in omega (arith, e, lt)
edge_narrow w (Widen name ∷ path) n e = let lt = n.0 in omega (arith, e, lt)
edge_narrow w (Share ∷ path) n e = omega (arith, e)

pub class_of_tag : (class t : ℕ) (b : Bool) → t ≡ flagged class b → t / 8 ≡ class
class_of_tag class t true e = omega (arith, e)
class_of_tag class t false e = omega (arith, e)

pub flag_of_tag : (class t : ℕ) (b : Bool) → t ≡ flagged class b → (t % 8 == 1) ≡ b
flag_of_tag class t true e = eq-eqb (t % 8) 1 (omega (arith, e))
flag_of_tag class t false e = ne_eqb (t % 8) 1 (λ q. omega (arith, e, q))

-- the parent of a shape
pub parent_is : (bs : List Block) (class : ℕ) (path : Path) (w up : ℕ) → w ≡ edge_of path → LeadsUp bs (parent_of (record { class = class; path = path })) up → IsParent bs (parent_of (record { class = class; path = path })) (parent_by w up)
parent_is bs class [] w up e l = ap (λ b. cond b None (Some up)) (eq-eqb w 0 e)
parent_is bs class (edge ∷ path) w up e l = (up, ap (λ b. cond b None (Some up)) (ne_eqb w 0 (λ z. some_edge edge (sym e ∙ z))), l)
  where
    some_edge : (x : Edge) → Rattle.heap_core.specs.Shapes.edge_word x ≡ 0 → ⊥
    some_edge (Add n IntLoc) z = omega (arith, z)
    some_edge (Add n AnyLoc) z = omega (arith, z)
    some_edge (Widen n) z = omega (arith, z)
    some_edge Share z = omega (arith, z)
