-- A tree with one key more.
use Rattle.std.proofs.Common.{◌≡◌, ℕ, ◌+◌, ◌<◌, ◌≤◌, List, [], ◌∷◌, ◌++◌, ◌⊎◌, inl, inr, refl, ap, sym, ◌∙◌, subst, arith, length, get_or, Contains, length-append}
use Rattle.std.proofs.lemmas.List.{get_or_default}
use Rattle.std.proofs.lemmas.List.Elements.{Contains-get_or}
use Rattle.std.proofs.Math.ListN.{get_or-append}
use Rattle.std.proofs.Math.Seq.{get_or-append_seam}
use Rattle.shape_core.specs.declared.facts.ShapeId.{ShapeId}
use Rattle.shape_core.specs.Path.{Path}
use Rattle.shape_core.specs.Shape.{Shape, IsStore, Has, Gains, root_of, child_of, shape_at, path_at}
use Rattle.shape_core.proofs.Stores.{Follows, IsStore-push}
use Rattle.shape_tree.specs.declared.key.Key.{Key}
use Rattle.shape_tree.specs.declared.key.Key.TheVariants.{Root, Child}
use Rattle.shape_tree.specs.declared.key.Row.{Row}
use Rattle.shape_tree.specs.Layouts.{Lists}
use Rattle.shape_tree.specs.Shapes.{IsRow, IsTree, StandsBefore, key_at, row_at, shape_of, shapes_from, shapes_of}

shapes_from-push : (before : List Shape) (keys : List Key) (key : Key)
    → shapes_from before (keys ++ key ∷ []) ≡ shapes_from before keys ++ shape_of (shapes_from before keys) key ∷ []
shapes_from-push before [] key = refl
shapes_from-push before (k ∷ keys) key = shapes_from-push (before ++ shape_of before k ∷ []) keys key

-- one key more is one shape more
pub shapes_of-push : (keys : List Key) (key : Key) → shapes_of (keys ++ key ∷ []) ≡ shapes_of keys ++ shape_of (shapes_of keys) key ∷ []
shapes_of-push keys key = shapes_from-push [] keys key

-- the shape of a key is the same where more shapes stand behind its parent
shape_of-older : (shapes : List Shape) (shape : Shape) (key : Key) (n : ℕ) → StandsBefore key n → n ≤ length shapes
    → shape_of (shapes ++ shape ∷ []) key ≡ shape_of shapes key
shape_of-older shapes shape (Root class) n before h = refl
shape_of-older shapes shape (Child parent edge) n before h =
    ap (λ (s : Shape). child_of s edge) (get_or-append shapes (shape ∷ []) (root_of 0) parent.0 (omega arith))

-- an index into a list with one element more is an older one or the last
index_cases : {X : Type 0} (xs : List X) (x : X) (n : ℕ) → n < length (xs ++ x ∷ []) → (n < length xs) ⊎ (n ≡ length xs)
index_cases xs x n h = by n (length xs) (omega (arith, length-append xs (x ∷ []), h))
  where
    by : (k n : ℕ) → k < n + 1 → (k < n) ⊎ (k ≡ n)
    by k n h = grind arith

same_id : (id other : ShapeId) → id.0 ≡ other.0 → id ≡ other
same_id id other e = let by : ℕ → ShapeId = λ n. record { 0 = n } in ap by e

-- keys of one shape are one
one_key : (shapes : List Shape) (key other : Key) → IsStore shapes → StandsBefore key (length shapes) → StandsBefore other (length shapes)
    → shape_of shapes key ≡ shape_of shapes other → key ≡ other
one_key shapes (Root class) (Root class') store before before' e = ap Root (ap (λ (s : Shape). s.class) e)
one_key shapes (Root class) (Child parent edge) store before before' e = let p = ap (λ (s : Shape). s.path) e in absurd (cc)
one_key shapes (Child parent edge) (Root class) store before before' e = let p = ap (λ (s : Shape). s.path) e in absurd (cc)
one_key shapes (Child parent edge) (Child parent' edge') store before before' e =
    let class : (shape_at shapes parent).class ≡ (shape_at shapes parent').class = ap (λ (s : Shape). s.class) e in
    let paths : edge ∷ path_at shapes parent ≡ edge' ∷ path_at shapes parent' = ap (λ (s : Shape). s.path) e in
    let path : path_at shapes parent ≡ path_at shapes parent' = cc in
    let edges : edge ≡ edge' = cc in
    let make : ℕ → Path → Shape = λ c p. record { class = c; path = p } in
    let same : shape_at shapes parent ≡ shape_at shapes parent'
    = ap (λ c. make c (path_at shapes parent)) class ∙ ap (make (shape_at shapes parent').class) path in
    let ids : parent ≡ parent' = store.distinct parent parent' before before' same in
    ap (λ (p : ShapeId). Child p edge) ids ∙ ap (Child parent') edges

weaker : (key : Key) (n m : ℕ) → n ≤ m → StandsBefore key n → StandsBefore key m
weaker (Root class) n m h before = tt
weaker (Child parent edge) n m h before = omega arith

module _ (keys : List Key) (rows : List Row) (tables : Lists) (tree : IsTree keys rows tables) where
  -- a shape with a number is that of its key
  pub named_at : (id : ShapeId) → id.0 < length keys → shape_at (shapes_of keys) id ≡ shape_of (shapes_of keys) (key_at keys id.0)
  named_at id h = tree.named id.0 h

  -- a key that is there has its shape, by its number
  pub has_shape : (key : Key) (at : ℕ) → at < length keys → key_at keys at ≡ key → Has (shapes_of keys) (record { 0 = at }) (shape_of (shapes_of keys) key)
  has_shape key at h e = (omega (arith, tree.counted), tree.named at h ∙ ap (shape_of (shapes_of keys)) e)

  pub gains_none : (key : Key) (at : ℕ) → at < length keys → key_at keys at ≡ key → Gains (shapes_of keys) (shape_of (shapes_of keys) key) (shapes_of keys)
  gains_none key at h e =
      let has = has_shape key at h e in
      inl (subst (Contains (shapes_of keys)) has.1 (Contains-get_or (shapes_of keys) at (root_of 0) has.0), refl)

  -- a key that is not there has a shape that is not there
  pub fresh : (key : Key) → StandsBefore key (length keys) → (Contains keys key → ⊥) → Contains (shapes_of keys) (shape_of (shapes_of keys) key) → ⊥
  fresh key before new there =
      let shape : Shape = shape_of (shapes_of keys) key in
      let n : ℕ = there.0 in
      let within : n < length keys = omega (arith, there.1, tree.counted) in
      let same : shape_of (shapes_of keys) (key_at keys n) ≡ shape
      = sym (tree.named n within) ∙ get_or_default (shapes_of keys) n (root_of 0) shape there.1 ∙ there.2 in
      let long : length keys ≤ length (shapes_of keys) = omega (arith, tree.counted) in
      let one : key_at keys n ≡ key
      = one_key (shapes_of keys) (key_at keys n) key tree.store
      (weaker (key_at keys n) n (length (shapes_of keys)) (omega (arith, within, long)) (tree.before n within))
      (weaker key (length keys) (length (shapes_of keys)) long before) same in
      new (subst (Contains keys) one (Contains-get_or keys n (Root 0) within))

-- what holds of each number of a tree, its key, its row and its shape, holds with one more of each
each_more : (keys : List Key) (rows : List Row) (shapes : List Shape) (key : Key) (row : Row) (shape : Shape) (P : ℕ → Key → Row → Shape → Type 0)
    → length rows ≡ length keys → length shapes ≡ length keys
    → ((n : ℕ) → n < length keys → P n (key_at keys n) (row_at rows n) (get_or shapes n (root_of 0))) → P (length keys) key row shape
    → (n : ℕ) → n < length (keys ++ key ∷ [])
    → P n (key_at (keys ++ key ∷ []) n) (row_at (rows ++ row ∷ []) n) (get_or (shapes ++ shape ∷ []) n (root_of 0))
each_more keys rows shapes key row shape P even counted older newest n h =
    elim (index_cases keys key n h) [
      | inl lt ↦
          subst (λ (k : Key). P n k (row_at (rows ++ row ∷ []) n) (get_or (shapes ++ shape ∷ []) n (root_of 0))) (sym (get_or-append keys (key ∷ []) _ n lt))
          (subst (λ (r : Row). P n (key_at keys n) r (get_or (shapes ++ shape ∷ []) n (root_of 0))) (sym (get_or-append rows (row ∷ []) _ n (omega arith)))
          (subst (λ (s : Shape). P n (key_at keys n) (row_at rows n) s) (sym (get_or-append shapes (shape ∷ []) (root_of 0) n (omega arith)))
          (older n lt)))
      | inr e ↦
          let last-key : key_at (keys ++ key ∷ []) n ≡ key = ap (key_at (keys ++ key ∷ [])) e ∙ get_or-append_seam keys key [] _ in
          let last-row : row_at (rows ++ row ∷ []) n ≡ row = ap (row_at (rows ++ row ∷ [])) (e ∙ sym even) ∙ get_or-append_seam rows row [] _ in
          let last-shape : get_or (shapes ++ shape ∷ []) n (root_of 0) ≡ shape
          = ap (λ m. get_or (shapes ++ shape ∷ []) m (root_of 0)) (e ∙ sym counted) ∙ get_or-append_seam shapes shape [] (root_of 0) in
          subst (λ (k : Key). P n k (row_at (rows ++ row ∷ []) n) (get_or (shapes ++ shape ∷ []) n (root_of 0))) (sym last-key)
          (subst (λ (r : Row). P n key r (get_or (shapes ++ shape ∷ []) n (root_of 0))) (sym last-row)
          (subst (λ (s : Shape). P n key row s) (sym last-shape)
          (subst (λ m. P m key row shape) (sym e) newest)))
    ]

module _ (keys : List Key) (rows : List Row) (tables : Lists) (tree : IsTree keys rows tables)
    (key : Key) (row : Row) (before : StandsBefore key (length keys)) (new : Contains keys key → ⊥)
    (follows : Follows (shapes_of keys) (shape_of (shapes_of keys) key)) (is : IsRow tables (shape_of (shapes_of keys) key) row) where
  abbrev made : Shape
  made = shape_of (shapes_of keys) key

  abbrev more : List Shape
  more = shapes_of keys ++ made ∷ []

  -- the tree with a key more, by its shapes
  IsMore : List Shape → Type 0
  IsMore shapes = (IsStore shapes) × (length shapes ≡ length (keys ++ key ∷ []))
      × ((n : ℕ) → n < length (keys ++ key ∷ []) → get_or shapes n (root_of 0) ≡ shape_of shapes (key_at (keys ++ key ∷ []) n))
      × ((n : ℕ) → n < length (keys ++ key ∷ []) → IsRow tables (get_or shapes n (root_of 0)) (row_at (rows ++ row ∷ []) n))

  is_more : IsMore more
  unfolding IsMore
  is_more =
      let long : length keys ≤ length (shapes_of keys) = omega (arith, tree.counted) in (
        IsStore-push (shapes_of keys) made tree.store (fresh keys rows tables tree key before new) follows,
        omega (arith, length-append (shapes_of keys) (made ∷ []), length-append keys (key ∷ []), tree.counted),
        each_more keys rows (shapes_of keys) key row made (λ n k r s. s ≡ shape_of more k) tree.even tree.counted
            (λ n h. tree.named n h ∙ sym (shape_of-older (shapes_of keys) made (key_at keys n) n (tree.before n h) (omega arith)))
            (sym (shape_of-older (shapes_of keys) made key (length keys) before long)),
        each_more keys rows (shapes_of keys) key row made (λ n k r s. IsRow tables s r) tree.even tree.counted tree.kept is,
      )

  -- a tree with one key more is one
  pub IsTree-push : IsTree (keys ++ key ∷ []) (rows ++ row ∷ []) tables
  unfolding IsMore
  IsTree-push =
      let m : IsMore (shapes_of (keys ++ key ∷ [])) = subst IsMore (sym (shapes_of-push keys key)) is_more in
      record {
        store = m.0;
        counted = m.1;
        even = omega (arith, length-append rows (row ∷ []), length-append keys (key ∷ []), tree.even);
        before = each_more keys rows (shapes_of keys) key row made (λ n k r s. StandsBefore k n) tree.even tree.counted tree.before before;
        named = m.2;
        kept = m.3;
      }

  -- it has the new shape behind
  pub gains_one : Gains (shapes_of keys) made (shapes_of (keys ++ key ∷ []))
  gains_one = inr (fresh keys rows tables tree key before new, shapes_of-push keys key)

  -- with the next number
  pub has_one : Has (shapes_of (keys ++ key ∷ [])) (record { 0 = length keys }) made
  has_one = (
    omega (arith, ap length (shapes_of-push keys key), length-append (shapes_of keys) (made ∷ []), tree.counted),
    ap (λ (s : List Shape). get_or s (length keys) (root_of 0)) (shapes_of-push keys key)
        ∙ ap (λ n. get_or more n (root_of 0)) (sym tree.counted)
        ∙ get_or-append_seam (shapes_of keys) made [] (root_of 0),
  )
