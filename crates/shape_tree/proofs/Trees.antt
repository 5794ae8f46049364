-- The keys and rows of a tree, as its tables and rows change.
use Rattle.std.proofs.Common.{◌≡◌, ℕ, zero, suc, ◌<◌, List, [], ◌∷◌, inl, inr, refl, ap, sym, ◌∙◌, subst, arith, length, get_or, set, length-set, append-nil}
use Rattle.std.proofs.lemmas.List.{get_or-set_same, get_or-set_other}
use Rattle.std.proofs.lemmas.Bool.Decides.{eqb_tells}
use Rattle.indexmap.specs.IndexMap.{IndexMap, keys, values, index_map_len, with_value_at, set_value_at}
use Rattle.indexmap.proofs.CallerLemmas.{keys-with_value_at}
use Rattle.std.proofs.lemmas.Map.Entries.{length-keys_of, length-values_of}
use Rattle.std.specs.Map.{values_of}
use Rattle.shape_core.specs.Shape.{Shape, root_of}
use Rattle.shape_tree.specs.declared.table.Layout.{Layout}
use Rattle.shape_tree.specs.declared.key.Key.{Key}
use Rattle.shape_tree.specs.declared.key.Row.{Row}
use Rattle.shape_tree.specs.Layouts.{Lists, Extends, Keeps, slots_of}
use Rattle.shape_tree.specs.Shapes.{IsRow, IsTree, row_at, shapes_of}

-- the values after a write by index
pub values-set_value_at : {K X : Type 0} (entries : List (K × X)) (at : ℕ) (value : X) → values_of (set_value_at entries at value) ≡ set (values_of entries) at value
values-set_value_at [] at value = refl
values-set_value_at (e ∷ es) zero value = refl
values-set_value_at (e ∷ es) (suc at) value = ap (λ vs. e.1 ∷ vs) (values-set_value_at es at value)

-- a row with another layout of the same slots
IsRow-laid : (old new : Lists) (shape : Shape) (row : Row) (to : Layout) → IsRow old shape row → Extends old row.layout [] new to
    → IsRow new shape (record { class = row.class; shared = row.shared; layout = to })
IsRow-laid old new shape row to is laid = record {
  class = is.class;
  shared = is.shared;
  fits = laid.fits;
  slots = laid.slots ∙ append-nil (slots_of old row.layout) ∙ is.slots;
}

IsRow-keeps : (old new : Lists) (shape : Shape) (row : Row) → Keeps old new → IsRow old shape row → IsRow new shape row
IsRow-keeps old new shape row keeps is = IsRow-laid old new shape row row.layout is (keeps row.layout is.fits)

-- a tree stays one over tables that keep its layouts
pub IsTree-keeps : (keys : List Key) (rows : List Row) (old new : Lists) → Keeps old new → IsTree keys rows old → IsTree keys rows new
IsTree-keeps keys rows old new keeps tree = record {
  store = tree.store;
  counted = tree.counted;
  even = tree.even;
  before = tree.before;
  named = tree.named;
  kept = λ n lt. IsRow-keeps old new _ (row_at rows n) keeps (tree.kept n lt);
}

-- and where a row takes another layout of its slots
pub IsTree-settled : (keys : List Key) (rows : List Row) (old new : Lists) (at : ℕ) (to : Layout) → IsTree keys rows old → Keeps old new → at < length keys
    → Extends old (row_at rows at).layout [] new to
    → IsTree keys (set rows at (record { class = (row_at rows at).class; shared = (row_at rows at).shared; layout = to })) new
IsTree-settled keys rows old new at to tree keeps known laid =
    let row : Row = record { class = (row_at rows at).class; shared = (row_at rows at).shared; layout = to } in
    record {
      store = tree.store;
      counted = tree.counted;
      even = length-set rows at row ∙ tree.even;
      before = tree.before;
      named = tree.named;
      kept = λ n lt.
          let shape : Shape = get_or (shapes_of keys) n (root_of 0) in
          elim (eqb_tells n at) [
            | inl w ↦
                let here : IsRow new shape row = IsRow-laid old new shape (row_at rows at) to (subst (λ m. IsRow old shape (row_at rows m)) w.1 (tree.kept n lt)) laid in
                let there : row_at (set rows at row) n ≡ row = ap (row_at (set rows at row)) w.1 ∙ get_or-set_same rows at row _ (omega (arith, tree.even)) in
                subst (IsRow new shape) (sym there) here
            | inr w ↦
                subst (IsRow new shape) (sym (get_or-set_other rows at n row _ w.1)) (IsRow-keeps old new shape (row_at rows n) keeps (tree.kept n lt))
          ];
    }

module _ {S : Type 0} (nodes : IndexMap Key Row S) (at : ℕ) (row : Row) (to : Layout) where
  -- a row with another layout
  abbrev pub laid : Row
  laid = record { class = row.class; shared = row.shared; layout = to }

  values-laid : values (with_value_at nodes at laid) ≡ set (values nodes) at laid
  values-laid = values-set_value_at nodes.entries at laid

  -- the same, where the row is written into the map
  pub IsTree-laid : (old new : Lists) → IsTree (keys nodes) (values nodes) old → Keeps old new → at < index_map_len nodes
      → row ≡ row_at (values nodes) at → Extends old row.layout [] new to
      → IsTree (keys (with_value_at nodes at laid)) (values (with_value_at nodes at laid)) new
  IsTree-laid old new tree keeps known is extends =
      subst (λ (ks : List Key). IsTree ks (values (with_value_at nodes at laid)) new) (sym (keys-with_value_at nodes at laid))
      (subst (λ (rs : List Row). IsTree (keys nodes) rs new) (sym values-laid)
      (subst (λ (r : Row). IsTree (keys nodes) (set (values nodes) at (record { class = r.class; shared = r.shared; layout = to })) new) (sym is)
      (IsTree-settled (keys nodes) (values nodes) old new at to tree keeps (omega (arith, length-keys_of nodes.entries, known))
      (subst (λ (r : Row). Extends old r.layout [] new to) is extends))))

  pub layout-laid : at < index_map_len nodes → (row_at (values (with_value_at nodes at laid)) at).layout ≡ to
  layout-laid known =
      ap (λ (rs : List Row). (row_at rs at).layout) values-laid
      ∙ ap (λ (r : Row). r.layout) (get_or-set_same (values nodes) at laid _ (omega (arith, length-values_of nodes.entries, known)))
