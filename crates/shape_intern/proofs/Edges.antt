-- The edge of a shape tells it from its siblings, and its class a root from the others.
use Rattle.std.proofs.Common.{◌≡◌, ℕ, ◌+◌, ◌*◌, [], ◌∷◌, Some, None, refl, sym, ap, ◌∙◌, arith}
use Rattle.rb_tree.specs.declared.span.NameId.{NameId}
use Rattle.shape_core.specs.declared.edge.Edge.{Edge}
use Rattle.shape_core.specs.declared.edge.Edge.TheVariants.{Add, Widen, Share}
use Rattle.shape_core.specs.declared.edge.Kind.TheVariants.{IntLoc, AnyLoc}
use Rattle.shape_core.specs.Path.{Path}
use Rattle.shape_core.specs.Shape.{Shape, child_of, root_of}
use Rattle.heap_core.specs.Fixed.{edge_of}
use Rattle.heap_core.specs.Shapes.{edge_word, parent_of}
use Rattle.shape_intern.specs.Walks.{Tells}

one_name : (a b : NameId) → a.0 ≡ b.0 → a ≡ b
one_name a b e = ap (λ (n : ℕ). record { 0 = n }) e

-- a word is that of one edge
pub one_edge : (a b : Edge) → edge_word a ≡ edge_word b → a ≡ b
one_edge (Add n IntLoc) (Add m IntLoc) e = ap (λ (x : NameId). Add x IntLoc) (one_name n m (omega (arith, e)))
one_edge (Add n IntLoc) (Add m AnyLoc) e = absurd (omega (arith, e))
one_edge (Add n IntLoc) (Widen m) e = absurd (omega (arith, e))
one_edge (Add n IntLoc) Share e = absurd (omega (arith, e))
one_edge (Add n AnyLoc) (Add m IntLoc) e = absurd (omega (arith, e))
one_edge (Add n AnyLoc) (Add m AnyLoc) e = ap (λ (x : NameId). Add x AnyLoc) (one_name n m (omega (arith, e)))
one_edge (Add n AnyLoc) (Widen m) e = absurd (omega (arith, e))
one_edge (Add n AnyLoc) Share e = absurd (omega (arith, e))
one_edge (Widen n) (Add m IntLoc) e = absurd (omega (arith, e))
one_edge (Widen n) (Add m AnyLoc) e = absurd (omega (arith, e))
one_edge (Widen n) (Widen m) e = ap Widen (one_name n m (omega (arith, e)))
one_edge (Widen n) Share e = absurd (omega (arith, e))
one_edge Share (Add m IntLoc) e = absurd (omega (arith, e))
one_edge Share (Add m AnyLoc) e = absurd (omega (arith, e))
one_edge Share (Widen m) e = absurd (omega (arith, e))
one_edge Share Share e = refl

some_is : (a b : Shape) → Some a ≡ Some b → a ≡ b
some_is a b e = cc

pub child_tells : (shape : Shape) (edge : Edge) (w : ℕ) → w ≡ edge_word edge → Tells (Some shape) (child_of shape edge) 2 w
child_tells shape edge w word = (refl, λ other at of. (edge_of other.path, refl, λ is. by_path other.class other.path of (is ∙ word), λ is. ap (λ (s : Shape). edge_of s.path) is ∙ sym word))
  where
    by_path : (class : ℕ) (path : Path) → parent_of (record { class = class; path = path }) ≡ Some shape → edge_of path ≡ edge_word edge → record { class = class; path = path } ≡ child_of shape edge
    by_path class [] of is = absurd (let h : None ≡ Some shape = of in cc)
    by_path class (e ∷ path) of is =
        let parent : record { class = class; path = path } ≡ shape = some_is (record { class = class; path = path }) shape of in
        ap (λ (s : Shape). record { class = s.class; path = e ∷ s.path }) parent ∙ ap (child_of shape) (one_edge e edge is)

pub root_tells : (class w : ℕ) → w ≡ class * 8 → Tells None (root_of class) 0 w
root_tells class w word = (
  refl,
  λ other at of. (
    other.class * 8 + 0,
    ap Some (by_path other.class other.path of).0,
    λ is. (by_path other.class other.path of).1 (omega (arith, is, word)),
    λ is. let c = ap (λ (s : Shape). s.class) is in omega (arith, c, word),
  ),
)
  where
    by_path : (n : ℕ) (path : Path) → parent_of (record { class = n; path = path }) ≡ None
        → (Rattle.heap_core.specs.Shapes.flagged n (Rattle.shape_core.specs.Path.is_shared path) ≡ n * 8 + 0) × (n ≡ class → record { class = n; path = path } ≡ root_of class)
    by_path n [] of = (refl, λ e. ap root_of e)
    by_path n (e ∷ path) of = absurd (let h : Some (record { class = n; path = path }) ≡ None = of in cc)
