-- Lists of shapes that grow by one.
use Rattle.std.proofs.Common.{◌≡◌, ℕ, ◌+◌, ◌<◌, List, [], ◌∷◌, ◌++◌, ◌⊎◌, inl, inr, ap, sym, ◌∙◌, subst, arith, Contains, get_or, length, length-append}
use Rattle.std.proofs.lemmas.List.Elements.{Contains-get_or}
use Rattle.std.proofs.Math.ListN.{get_or-append}
use Rattle.std.proofs.Math.Seq.{get_or-append_seam}
use Rattle.shape_core.specs.declared.edge.Edge.{Edge}
use Rattle.shape_core.specs.declared.facts.ShapeId.{ShapeId}
use Rattle.shape_core.specs.Path.{Path, IsPath, MayFollow}
use Rattle.shape_core.specs.Shape.{Shape, IsStore, Has, Gains, child_of, path_at, root_of, shape_at}

-- the numbers of the shapes with one more behind are the older ones and the next
number_cases : (shapes : List Shape) (shape : Shape) (id : ShapeId) → id.0 < length (shapes ++ shape ∷ []) → (id.0 < length shapes) ⊎ (id.0 ≡ length shapes)
number_cases shapes shape id h =
    let within : id.0 < length shapes + 1 = omega (arith, length-append shapes (shape ∷ []), h) in
    by id.0 (length shapes) within
  where
    by : (k n : ℕ) → k < n + 1 → (k < n) ⊎ (k ≡ n)
    by k n h = grind arith

-- the older shapes keep their numbers
pub shape_at-older : (shapes : List Shape) (shape : Shape) (id : ShapeId) → id.0 < length shapes → shape_at (shapes ++ shape ∷ []) id ≡ shape_at shapes id
shape_at-older shapes shape id h = get_or-append shapes (shape ∷ []) (root_of 0) id.0 h

-- and the new one has the next
pub shape_at-newest : (shapes : List Shape) (shape : Shape) (id : ShapeId) → id.0 ≡ length shapes → shape_at (shapes ++ shape ∷ []) id ≡ shape
shape_at-newest shapes shape id h =
    ap (λ n. get_or (shapes ++ shape ∷ []) n (root_of 0)) h ∙ get_or-append_seam shapes shape [] (root_of 0)

-- a shape that a store may gain: its path is one, and its parent is there
pub record Follows (shapes : List Shape) (shape : Shape) : Type 0 where
  pub path : IsPath shape.path
  pub parent : (edge : Edge) (path : Path) → shape.path ≡ edge ∷ path
      → (parent : ShapeId) × Has shapes parent (record { class = shape.class; path = path })

pub Follows-root : (shapes : List Shape) (class : ℕ) → Follows shapes (root_of class)
Follows-root shapes class = record { path = tt; parent = λ edge path e. absurd (cc) }

pub Follows-child : (shapes : List Shape) (id : ShapeId) (edge : Edge) → IsStore shapes → id.0 < length shapes → MayFollow (path_at shapes id) edge
    → Follows shapes (child_of (shape_at shapes id) edge)
Follows-child shapes id edge store known allowed = record {
  path = (allowed, store.paths id known);
  parent = λ it path e.
      let same : path_at shapes id ≡ path = cc in
      let by : Path → Shape = λ p. record { class = (shape_at shapes id).class; path = p } in
      (id, (known, ap by same));
}

-- a number in a list with one shape more is an older one or the new one's, and the shape with it is known
pub each_case : (shapes : List Shape) (shape : Shape) (P : ℕ → Shape → Type 0)
    → ((id : ShapeId) → id.0 < length shapes → P id.0 (shape_at shapes id)) → P (length shapes) shape
    → (id : ShapeId) → id.0 < length (shapes ++ shape ∷ []) → P id.0 (shape_at (shapes ++ shape ∷ []) id)
each_case shapes shape P older newest id h =
    elim (number_cases shapes shape id h) [
      | inl lt ↦ subst (λ (s : Shape). P id.0 s) (sym (shape_at-older shapes shape id lt)) (older id lt)
      | inr e ↦ subst (λ (s : Shape). P id.0 s) (sym (shape_at-newest shapes shape id e)) (subst (λ (n : ℕ). P n shape) (sym e) newest)
    ]

same_id : (id other : ShapeId) → id.0 ≡ other.0 → id ≡ other
same_id id other e = let by : ℕ → ShapeId = λ n. record { 0 = n } in ap by e

contains_at : (shapes : List Shape) (shape : Shape) (id : ShapeId) → id.0 < length shapes → shape_at shapes id ≡ shape → Contains shapes shape
contains_at shapes shape id h e = subst (Contains shapes) e (Contains-get_or shapes id.0 (root_of 0) h)

-- a list of shapes with none of them twice, and one that is not there behind
distinct-push : (shapes : List Shape) (shape : Shape) → IsStore shapes → (Contains shapes shape → ⊥)
    → (id other : ShapeId) → id.0 < length (shapes ++ shape ∷ []) → other.0 < length (shapes ++ shape ∷ [])
    → shape_at (shapes ++ shape ∷ []) id ≡ shape_at (shapes ++ shape ∷ []) other → id ≡ other
distinct-push shapes shape store new id other h h' same =
    elim (number_cases shapes shape id h) [
      | inl lt ↦ elim (number_cases shapes shape other h') [
        | inl lt' ↦ store.distinct id other lt lt' (sym (shape_at-older shapes shape id lt) ∙ same ∙ shape_at-older shapes shape other lt')
        | inr e' ↦ absurd (new (contains_at shapes shape id lt
            (sym (shape_at-older shapes shape id lt) ∙ same ∙ shape_at-newest shapes shape other e')))
      ]
      | inr e ↦ elim (number_cases shapes shape other h') [
        | inl lt' ↦ absurd (new (contains_at shapes shape other lt'
            (sym (shape_at-older shapes shape other lt') ∙ sym same ∙ shape_at-newest shapes shape id e)))
        | inr e' ↦ same_id id other (e ∙ sym e')
      ]
    ]

-- no shapes are those of a store
pub IsStore-none : IsStore []
IsStore-none = record { distinct = λ id other h h' same. absurd (omega (arith, h)); paths = λ id h. absurd (omega (arith, h)); parents = λ id edge path h e. absurd (omega (arith, h)) }

-- a shape of a list has its parent before the number n
abbrev HasBefore : List Shape → ℕ → Shape → Type 0
HasBefore shapes n shape = (edge : Edge) (path : Path) → shape.path ≡ edge ∷ path
    → (parent : ShapeId) × (parent.0 < n) × (shape_at shapes parent ≡ record { class = shape.class; path = path })

-- and with one more behind that may follow they still are
pub IsStore-push : (shapes : List Shape) (shape : Shape) → IsStore shapes → (Contains shapes shape → ⊥) → Follows shapes shape → IsStore (shapes ++ shape ∷ [])
IsStore-push shapes shape store new follows = record {
  distinct = distinct-push shapes shape store new;
  paths = each_case shapes shape (λ n s. IsPath s.path) store.paths follows.path;
  parents = λ id edge path h e. each_case shapes shape (HasBefore (shapes ++ shape ∷ [])) older newest id h edge path e;
}
  where
    older : (id : ShapeId) → id.0 < length shapes → HasBefore (shapes ++ shape ∷ []) id.0 (shape_at shapes id)
    older id h edge path e =
        let p = store.parents id edge path h e in
        (p.0, p.1, shape_at-older shapes shape p.0 (omega (arith, p.1, h)) ∙ p.2)

    newest : HasBefore (shapes ++ shape ∷ []) (length shapes) shape
    newest edge path e =
        let p = follows.parent edge path e in
        (p.0, p.1.0, shape_at-older shapes shape p.0 p.1.0 ∙ p.1.1)

-- so a store that gains a shape that may follow is one
pub IsStore-gains : (old new : List Shape) (shape : Shape) → IsStore old → Gains old shape new → Follows old shape → IsStore new
IsStore-gains old new shape store gains follows =
    elim gains [
      | inl w ↦ subst IsStore (sym w.1) store
      | inr w ↦ subst IsStore (sym w.1) (IsStore-push old shape store w.0 follows)
    ]
