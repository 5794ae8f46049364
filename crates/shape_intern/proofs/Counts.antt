-- How many shapes on a way are missing.
use Rattle.std.proofs.Common.{◌≡◌, ◌<◌, ◌≤◌, ℕ, zero, suc, ◌+◌, ◌-◌, List, [], ◌∷◌, length, drop, get_or, refl, sym, ap, ◌∙◌, subst, inl, inr, arith}
use Rattle.shape_core.specs.declared.edge.Edge.{Edge}
use Rattle.shape_core.specs.Shape.{Shape, child_of}
use Rattle.heap_core.specs.Blocks.{ShapeAt}
use Rattle.heap_core.specs.Growing.{Learns}
use Rattle.heap_core.specs.View.{Holder, HasTree, Knows}
use Rattle.shape_intern.specs.Interning.{KnowsShape, Misses}
use Rattle.shape_intern.specs.Walks.{IsMissing, KnowsTree}
use Rattle.shape_intern.proofs.Within.{learns_among}

-- behind a shape that is missing all are
all_missing : (k w : Holder) → Learns k w → KnowsTree w → (shape : Shape) (edges : List Edge) → IsMissing w.blocks shape → Misses k shape edges (length edges + 1)
all_missing k w l t shape [] gone = inr ((λ at h. gone at (learns_among k w l (ShapeAt shape at) h)), refl)
all_missing k w l t shape (edge ∷ edges) gone = (
  length edges + 1,
  all_missing k w l t (child_of shape edge) edges (λ at h. let p = t.up (child_of shape edge) at shape h refl in gone p.0 p.1),
  inr ((λ at h. gone at (learns_among k w l (ShapeAt shape at) h)), let z : length (edge ∷ edges) + 1 ≡ length edges + 1 + 1 = omega arith in z),
)

pub none_there : (k w : Holder) (shape : Shape) (edges : List Edge) (n : ℕ) → Learns k w → KnowsTree w → IsMissing w.blocks shape → n ≡ length edges + 1 → Misses k shape edges n
none_there k w shape edges n l t gone is = subst (Misses k shape edges) (sym is) (all_missing k w l t shape edges gone)

-- a place on the way, from which what is missing is what is missing of all
abbrev pub IsAt : (k w : Holder) → Shape → List Edge → (i at : ℕ) → Type 0
IsAt k w root edges i at = (shape : Shape) × Knows w (ShapeAt shape at) × ((m : ℕ) → Misses k shape (drop i edges) m → Misses k root edges m)

pub way_starts : (k w : Holder) (root : Shape) (edges : List Edge) (at : ℕ) → Knows w (ShapeAt root at) → IsAt k w root edges 0 at
way_starts k w root edges at h = (root, h, λ m x. x)

drop_next : (edges : List Edge) (i : ℕ) (e d : Edge) → i < length edges → e ≡ get_or edges i d → drop i edges ≡ e ∷ drop (suc i) edges
drop_next [] i e d lt is = absurd (omega (arith, lt))
drop_next (x ∷ xs) zero e d lt is = ap (λ y. y ∷ xs) (sym is)
drop_next (x ∷ xs) (suc i) e d lt is = drop_next xs i e d (omega (arith, lt)) is

module _ (k : Holder) (has : HasTree k) (root : Shape) (edges : List Edge) (i : ℕ) (e d : Edge) (lt : i < length edges) (is : e ≡ get_or edges i d) where
  -- the shape at the place is there
  there : (w : Holder) → Learns k w → (shape : Shape) (at : ℕ) → Knows w (ShapeAt shape at) → KnowsShape k shape
  there w l shape at h = (at, l.2 has (ShapeAt shape at) tt h)

  pub way_more : (w x : Holder) (at next : ℕ) → Learns k w → IsAt k w root edges i at → ((shape : Shape) → Knows w (ShapeAt shape at) → Knows x (ShapeAt (child_of shape e) next)) → IsAt k x root edges (i + 1) next
  way_more w x at next l p found = (
    child_of p.0 e,
    found p.0 p.1,
    λ m y. p.2 m (subst (λ es. Misses k p.0 es m) (sym (drop_next edges i e d lt is)) (m, subst (λ j. Misses k (child_of p.0 e) (drop j edges) m) (let z : i + 1 ≡ suc i = omega arith in z) y, inl (there w l p.0 at p.1, refl))),
  )

  pub way_stops : (w x : Holder) (at n : ℕ) → Learns k w → Learns k x → KnowsTree x → IsAt k w root edges i at → ((shape : Shape) → Knows w (ShapeAt shape at) → IsMissing x.blocks (child_of shape e)) → n ≡ length edges - i → Misses k root edges n
  way_stops w x at n l m t p gone n_is = p.2 n (subst (λ es. Misses k p.0 es n) (sym (drop_next edges i e d lt is)) (n, none_there k x (child_of p.0 e) (drop (suc i) edges) n m t (gone p.0 p.1) (n_is ∙ left edges i lt), inl (there w l p.0 at p.1, refl)))
    where
      left : (es : List Edge) (i : ℕ) → i < length es → length es - i ≡ length (drop (suc i) es) + 1
      left [] i lt = absurd (omega (arith, lt))
      left (y ∷ ys) zero lt = omega arith
      left (y ∷ ys) (suc i) lt = let more = left ys i (omega (arith, lt)) in omega (arith, more)

-- all are there
pub way_done : (k w : Holder) (has : HasTree k) (root : Shape) (edges : List Edge) (i at : ℕ) → Learns k w → length edges ≤ i → IsAt k w root edges i at → Misses k root edges 0
way_done k w has root edges i at l le p = p.2 0 (subst (λ es. Misses k p.0 es 0) (sym (none_left edges i le)) (inl ((at, l.2 has (ShapeAt p.0 at) tt p.1), refl)))
  where
    none_left : (es : List Edge) (i : ℕ) → length es ≤ i → drop i es ≡ []
    none_left [] zero le = refl
    none_left [] (suc i) le = refl
    none_left (y ∷ ys) zero le = absurd (omega (arith, le))
    none_left (y ∷ ys) (suc i) le = none_left ys i (omega (arith, le))
