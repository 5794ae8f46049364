-- A word tells a shape from the others of its row.
use Rattle.std.proofs.Common.{◌≡◌, ◌≢◌, ◌<◌, ◌-◌, ℕ, ◌+◌, Option, Some, IfSome, sym, ap, ◌∙◌, subst, inl, inr, arith}
use Rattle.rb_shared.specs.Lists.{Has}
use Rattle.shape_core.specs.Shape.{Shape}
use Rattle.heap_core.specs.Blocks.{ShapeAt}
use Rattle.heap_core.specs.Fixed.{fixed_word}
use Rattle.heap_core.specs.Growing.{LeadsOn, Learns}
use Rattle.heap_core.specs.Links.{IsTree}
use Rattle.heap_core.specs.Passes.{FixedIs}
use Rattle.heap_core.specs.Shapes.{next_sibling, parent_of}
use Rattle.heap_core.specs.View.{Holder, Knows}
use Rattle.shape_intern.specs.Walks.{IsMissing, KnowsShapeAt, KnowsTree, Ends, Tells}
use Rattle.shape_intern.proofs.Rows.{IsOn, Walks, goes_on, in_row_among, left_at, walk_ends, walk_goes}
use Rattle.shape_intern.proofs.Within.{learns_among, learns_size}

-- a word that never changes is what it always is
pub fixed_found : (k : Holder) (shape : Shape) (at i x n : ℕ) → Knows k (ShapeAt shape at) → i < 7 → fixed_word (ShapeAt shape at) i ≡ Some x → FixedIs k (at + i) n → n ≡ x
fixed_found k shape at i x n kn lt is fixed =
    let there : at + i - at ≡ i = omega arith in
    subst (λ (o : Option ℕ). IfSome o (λ y. n ≡ y)) (ap (fixed_word (ShapeAt shape at)) there ∙ is) (fixed (ShapeAt shape at) kn (omega arith, omega (arith, lt)))

module _ (k : Holder) (row : Option Shape) (shape : Shape) (behind mark at link n : ℕ) (lt : behind < 7) (tells : Tells row shape behind mark) (fixed : FixedIs k (at + behind) n) where
  -- the word is there, so the shape is
  pub mark_found : Walks k.blocks row shape at link → at ≢ 0 → n ≡ mark → Has k.blocks (ShapeAt shape at)
  mark_found (inr p) some is = absurd (some p.0)
  mark_found (inl p) some is =
      let q = p.1.1.1 in
      let x = tells.1 q.0 at q.2 in
      subst (λ y. Has k.blocks (ShapeAt y at)) (x.2 (sym (fixed_found k q.0 at behind x.0 n q.1 lt x.1 fixed) ∙ is)) q.1

  -- it is not, so another is
  pub mark_other : (n ≡ mark → ⊥) → (other : Shape) → Has k.blocks (ShapeAt other at) → parent_of other ≡ row → other ≡ shape → ⊥
  mark_other far other h of is = let x = tells.1 other at of in far (fixed_found k other at behind x.0 n h lt x.1 fixed ∙ x.3 is)

-- the walk goes on at the next place
module _ (k w : Holder) (learns : Learns k w) (t : KnowsTree k) (u : KnowsTree w) (at to : ℕ) (some : at ≢ 0) (leads : LeadsOn w.blocks at (next_sibling at) to) where
  tree_same : IsTree k.size w.blocks
  tree_same = subst (λ n. IsTree n w.blocks) (learns_size k w learns) u

  pub still_on : (row : Option Shape) → IsOn k.blocks row at → IsOn w.blocks row to
  still_on row on goes = (Rattle.std.specs.Prelude.suc (on some).0, goes_on k.size w.blocks row (on some).0 at to tree_same (in_row_among k.blocks w.blocks (learns_among k w learns) row (on some).0 at (on some).1) leads goes)

  pub less_left : (row : Option Shape) → IsOn k.blocks row at → left_at w.size w.blocks to < left_at k.size k.blocks at
  less_left row on = subst (λ n. left_at n w.blocks to < left_at k.size k.blocks at) (sym (learns_size k w learns)) (walk_ends k.size k.blocks w.blocks row at to some (learns_among k w learns) t tree_same on leads)

  pub still_walks : (row : Option Shape) (shape : Shape) (link : ℕ) → parent_of shape ≡ row → Walks k.blocks row shape at link → ((other : Shape) → Has k.blocks (ShapeAt other at) → parent_of other ≡ row → other ≡ shape → ⊥) → Walks w.blocks row shape to (next_sibling at)
  still_walks row shape link of walks far = walk_goes k.size k.blocks w.blocks row shape at link to some (learns_among k w learns) tree_same of walks far leads

-- the shape at a place of the walk is known
pub on_known : (k : Holder) (row : Option Shape) (at : ℕ) → at ≢ 0 → IsOn k.blocks row at → KnowsShapeAt k at
on_known k row at some on = let q = (on some).1.1 in (q.0, q.1)

-- the walk has ended without the shape
pub walk_over : (k : Holder) (row : Option Shape) (shape : Shape) (at link : ℕ) → at ≡ 0 → Walks k.blocks row shape at link → IsMissing k.blocks shape × Ends k.blocks row link
walk_over k row shape at link is (inl p) = absurd (p.0 is)
walk_over k row shape at link is (inr p) = (p.1, p.2)
