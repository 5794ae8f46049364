-- What is found and what is made, from where the walk began.
use Rattle.std.proofs.Common.{◌≡◌, ◌≤◌, ◌<◌, ℕ, ◌+◌, ◌*◌, ◌/◌, ◌^◌, Bool, true, false, Some, None, List, [], ◌∷◌, ◌++◌, length, refl, sym, ap, ◌∙◌, subst, arith, append_assoc}
use Rattle.rb_shared.specs.Lists.{Has}
use Rattle.rb_shared.proofs.Runs.{has_behind}
use Rattle.shape_core.specs.declared.edge.Edge.{Edge}
use Rattle.shape_core.specs.declared.edge.Edge.TheVariants.{Add, Widen, Share}
use Rattle.shape_core.specs.Path.{MayFollow, Path, is_shared, places_of}
use Rattle.shape_core.specs.Shape.{Shape, child_of, root_of}
use Rattle.heap_core.specs.Blocks.{ShapeAt}
use Rattle.heap_core.specs.Growing.{Learns, shape_block}
use Rattle.heap_core.specs.Passes.{FixedIs}
use Rattle.heap_core.specs.Shapes.{IsNarrowEdge, flagged}
use Rattle.heap_core.specs.View.{Holder, HasTree, Knows, busy_at, with_shape}
use Rattle.shape_intern.specs.Interning.{HasRoom, Interned, IsWanted, Makes, behind_shape}
use Rattle.shape_intern.specs.Walks.{Ends, IsMissing, KnowsTree}
use Rattle.shape_intern.proofs.Marks.{fixed_found}
use Rattle.shape_intern.proofs.Within.{learns_among}

module _ (k w : Holder) (l : Learns k w) (has : HasTree k) where
  pub still_has : HasTree w
  still_has = ap (λ (h : Holder). busy_at 16 h.doing) l.1 ∙ has

  pub still_room : (at : ℕ) → HasRoom k at → HasRoom w at
  still_room at room = (room.0, ap (λ (h : Holder). h.own) l.1 ∙ room.1, room.2)

  -- the shape was there
  pub interned_found : (room : ℕ) (shape : Shape) (at : ℕ) → KnowsTree w → Knows w (ShapeAt shape at) → Interned k w room room shape at
  interned_found room shape at t known = record {
    known = known;
    there = λ to h. (t.one_shape shape at to known (learns_among k w l (ShapeAt shape to) h), refl, l);
    made = λ missing. absurd (missing at (l.2 has (ShapeAt shape at) tt known));
  }

  -- it was missing, and was made
  pub interned_made : (after : Holder) (room room' : ℕ) (shape : Shape) (at : ℕ) → IsMissing w.blocks shape → Makes shape at w after → at ≡ room → room' ≡ room + 7 → Interned k after room room' shape at
  interned_made after room room' shape at missing makes here next = record {
    known = subst (λ (h : Holder). Has h.blocks (ShapeAt shape at)) (sym makes.2) (has_behind w.blocks makes.0 (ShapeAt shape at) makes.1);
    there = λ to h. absurd (missing to (learns_among k w l (ShapeAt shape to) h));
    made = λ _. (
      here,
      next,
      (
        l.0 ++ makes.0,
        has_behind l.0 makes.0 (ShapeAt shape at) makes.1,
        makes.2 ∙ (ap (λ (h : Holder). with_shape h (behind_shape h.own) shape makes.0) l.1
            ∙ ap (λ bs. record k { blocks = bs; own = behind_shape k.own; shapes = shape ∷ k.shapes }) (append_assoc k.blocks l.0 makes.0)),
      ),
    );
  }

-- a path has no more places than edges
pub few_places : (path : Path) → places_of path ≤ length path
few_places [] = omega arith
few_places (Add name kind ∷ path) = let more = few_places path in omega (arith, more)
few_places (Widen name ∷ path) = let more = few_places path in omega (arith, more)
few_places (Share ∷ path) = let more = few_places path in omega (arith, more)

-- ---- the words of a shape

-- a shape that several threads may use
pub tag_share : (class t : ℕ) (b : Bool) → t ≡ flagged class b → t / 8 * 8 + 1 ≡ class * 8 + 1
tag_share class t true is = omega (arith, is)
tag_share class t false is = omega (arith, is)

pub words_same : (a a' p w w' b b' c c' : ℕ) → a ≡ a' → w ≡ w' → b ≡ b' → c ≡ c' → ◌≡◌ {A = List ℕ} (a ∷ p ∷ w ∷ b ∷ c ∷ 0 ∷ 0 ∷ []) (a' ∷ p ∷ w' ∷ b' ∷ c' ∷ 0 ∷ 0 ∷ [])
words_same a a' p w w' b b' c c' e f g h =
    ap (λ x. x ∷ p ∷ w ∷ b ∷ c ∷ 0 ∷ 0 ∷ []) e ∙ (ap (λ x. a' ∷ p ∷ x ∷ b ∷ c ∷ 0 ∷ 0 ∷ []) f ∙ (ap (λ x. a' ∷ p ∷ w' ∷ x ∷ c ∷ 0 ∷ 0 ∷ []) g ∙ ap (λ x. a' ∷ p ∷ w' ∷ b' ∷ x ∷ 0 ∷ 0 ∷ []) h))

-- the words of a shape that is known
pub tag_found : (k : Holder) (shape : Shape) (at n : ℕ) → Knows k (ShapeAt shape at) → FixedIs k at n → n ≡ flagged shape.class (is_shared shape.path)
tag_found k shape at n kn fixed = fixed_found k shape at 0 (flagged shape.class (is_shared shape.path)) n kn (omega arith) refl (subst (λ i. FixedIs k i n) (let z : at ≡ at + 0 = omega arith in z) fixed)

pub places_found : (k : Holder) (shape : Shape) (at n : ℕ) → Knows k (ShapeAt shape at) → FixedIs k (at + 4) n → n ≡ places_of shape.path
places_found k shape at n kn fixed = fixed_found k shape at 4 (places_of shape.path) n kn (omega arith) refl fixed

-- there are few
pub places_few : (k : Holder) (shape : Shape) (at n : ℕ) → KnowsTree k → k.size ≤ 134217728 → Knows k (ShapeAt shape at) → FixedIs k (at + 4) n → n ≤ 134217728
places_few k shape at n t size kn fixed =
    let is = places_found k shape at n kn fixed in
    let few = few_places shape.path in
    let deep = t.deep shape at kn in
    omega (arith, is, few, deep, size)

-- a child that is missing may be made
pub child_wanted : (k : Holder) (shape : Shape) (edge : Edge) (at link : ℕ) (words : List ℕ) → KnowsTree k → Knows k (ShapeAt shape at) → IsNarrowEdge edge → MayFollow shape.path edge → IsMissing k.blocks (child_of shape edge) × Ends k.blocks (Some shape) link
    → words ≡ shape_block (child_of shape edge) at → IsWanted k link words (child_of shape edge)
child_wanted k shape edge at link words t kn narrow allowed gone is = let n = t.narrow shape at kn in (at, gone.0, gone.1, (n.0, (narrow, n.1)), kn, is, (allowed, t.legal shape at kn))

-- and so may a root
pub root_wanted : (k : Holder) (class link : ℕ) (words : List ℕ) → class < 2 ^ 32 → IsMissing k.blocks (root_of class) × Ends k.blocks None link → words ≡ shape_block (root_of class) 0 → IsWanted k link words (root_of class)
root_wanted k class link words narrow gone is = (0, gone.0, gone.1, (narrow, tt), refl, is, tt)

pub root_words : (class w : ℕ) → w ≡ class * 8 → w ∷ 0 ∷ 0 ∷ 0 ∷ 0 ∷ 0 ∷ 0 ∷ [] ≡ shape_block (root_of class) 0
root_words class w is = ap (λ n. n ∷ 0 ∷ 0 ∷ 0 ∷ 0 ∷ 0 ∷ 0 ∷ []) (let z : w ≡ class * 8 + 0 = omega (arith, is) in z)
