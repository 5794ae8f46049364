-- A map of keys with one key more.
use Rattle.std.proofs.Common.{◌≡◌, ℕ, false, List, [], ◌∷◌, ◌++◌, refl, ap, sym, ◌∙◌, subst, length, Contains}
use Rattle.std.specs.Map.{keys_of, values_of}
use Rattle.std.proofs.lemmas.Map.Entries.{length-keys_of}
use Rattle.indexmap.specs.IndexMap.{IndexMap, keys, values, index_map_len, insert_entry}
use Rattle.shape_core.specs.declared.facts.ShapeId.{ShapeId}
use Rattle.shape_core.specs.Shape.{Shape, Has, Gains, root_of}
use Rattle.shape_core.proofs.Stores.{Follows}
use Rattle.shape_tree.specs.declared.key.Key.{Key}
use Rattle.shape_tree.specs.declared.key.Row.{Row}
use Rattle.shape_tree.specs.declared.table.Layout.{Layout}
use Rattle.shape_tree.specs.Layouts.{Lists, Fits, root_layout}
use Rattle.shape_tree.specs.Shapes.{IsRow, IsTree, StandsBefore, shape_of, shapes_of}
use Rattle.shape_tree.proofs.Lookup.{key_eq, keys-insert, values-insert}
use Rattle.shape_tree.proofs.Made.{IsTree-push, fresh, gains_one, has_one}

-- keys, rows and tables have a shape more than the old shapes, with this number
pub record Grown (old : List Shape) (shape : Shape) (keys : List Key) (rows : List Row) (tables : Lists) (id : ShapeId) : Type 0 where
  pub tree : IsTree keys rows tables
  pub has : Has (shapes_of keys) id shape
  pub gains : Gains old shape (shapes_of keys)

module _ (keys : List Key) (rows : List Row) (tables : Lists) (tree : IsTree keys rows tables) (key : Key) (row : Row) (new : Contains keys key → ⊥) where
  pushed : (before : StandsBefore key (length keys)) → Follows (shapes_of keys) (shape_of (shapes_of keys) key) → IsRow tables (shape_of (shapes_of keys) key) row
      → Grown (shapes_of keys) (shape_of (shapes_of keys) key) (keys ++ key ∷ []) (rows ++ row ∷ []) tables (record { 0 = length keys })
  pushed before follows is = record {
    tree = IsTree-push keys rows tables tree key row before new follows is;
    has = has_one keys rows tables tree key row before new follows is;
    gains = gains_one keys rows tables tree key row before new follows is;
  }

module _ {S : Type 0} (nodes more : IndexMap Key Row S) (tables : Lists) (key : Key) (row : Row) where
  -- what an insert of a key that is not there does
  pub grown : (old : List Shape) → IsTree (keys nodes) (values nodes) tables → shapes_of (keys nodes) ≡ old → (Contains (keys nodes) key → ⊥)
      → StandsBefore key (length old) → Follows old (shape_of old key) → IsRow tables (shape_of old key) row
      → more.entries ≡ insert_entry key_eq nodes.entries key row → (at : ℕ) → at ≡ index_map_len nodes
      → Grown old (shape_of old key) (keys more) (values more) tables (record { 0 = at })
  grown old tree seen new before follows is entries at next =
      let ks : keys nodes ++ key ∷ [] ≡ keys more = sym (ap keys_of entries ∙ keys-insert key nodes new row) in
      let rs : values nodes ++ row ∷ [] ≡ values more = sym (ap values_of entries ∙ values-insert key nodes new row) in
      let n : length (keys nodes) ≡ at = length-keys_of nodes.entries ∙ sym next in
      let shapes : old ≡ shapes_of (keys nodes) = sym seen in
      let early : StandsBefore key (length (keys nodes))
      = subst (StandsBefore key) (ap length shapes ∙ tree.counted) before in
      let one = pushed (keys nodes) (values nodes) tables tree key row new early
      (subst (λ (s : List Shape). Follows s (shape_of s key)) shapes follows)
      (subst (λ (s : List Shape). IsRow tables (shape_of s key) row) shapes is) in
      subst (λ (s : List Shape). Grown s (shape_of s key) (keys more) (values more) tables (record { 0 = at })) seen
      (subst (λ (k : List Key). Grown (shapes_of (keys nodes)) (shape_of (shapes_of (keys nodes)) key) k (values more) tables (record { 0 = at })) ks
      (subst (λ (r : List Row). Grown (shapes_of (keys nodes)) (shape_of (shapes_of (keys nodes)) key) (keys nodes ++ key ∷ []) r tables (record { 0 = at })) rs
      (subst (λ m. Grown (shapes_of (keys nodes)) (shape_of (shapes_of (keys nodes)) key) (keys nodes ++ key ∷ []) (values nodes ++ row ∷ []) tables (record { 0 = m })) n one)))

-- the row of a root
pub IsRow-root : (tables : Lists) (class : ℕ) (layout : Layout) → layout ≡ root_layout → Fits tables layout
    → IsRow tables (root_of class) (record { class = class; shared = false; layout = layout })
IsRow-root tables class layout is fits =
    subst (λ (l : Layout). IsRow tables (root_of class) (record { class = class; shared = false; layout = l })) (sym is)
    (record { class = refl; shared = refl; fits = subst (Fits tables) is fits; slots = refl })

-- a shape that is there has its key there
pub not_fresh : (keys : List Key) (rows : List Row) (tables : Lists) (old : List Shape) (key : Key) → IsTree keys rows tables → shapes_of keys ≡ old
    → StandsBefore key (length old) → (Contains keys key → ⊥) → Contains old (shape_of old key) → ⊥
not_fresh keys rows tables old key tree seen before new there =
    fresh keys rows tables tree key (subst (StandsBefore key) (sym (ap length seen) ∙ tree.counted) before) new
    (subst (λ (s : List Shape). Contains s (shape_of s key)) (sym seen) there)
