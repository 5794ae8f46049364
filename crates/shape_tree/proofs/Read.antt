-- What a row of a tree says of its shape.
use Rattle.std.proofs.Common.{◌≡◌, ℕ, ◌-◌, ◌<◌, ◌≤◌, List, [], ◌∷◌, Option, Some, None, ap, sym, ◌∙◌, subst, arith, length, take, length-append}
use Rattle.std.proofs.lemmas.List.{length-take-le}
use Rattle.rb_tree.specs.declared.span.NameId.{NameId}
use Rattle.shape_core.specs.declared.facts.ShapeId.{ShapeId}
use Rattle.shape_core.specs.Path.{find_on, places_of}
use Rattle.shape_core.specs.Shape.{Shape, path_at, shape_at}
use Rattle.shape_tree.specs.declared.key.Key.{Key}
use Rattle.shape_tree.specs.declared.key.Row.{Row}
use Rattle.shape_tree.specs.declared.table.Slot.{Slot}
use Rattle.shape_tree.specs.declared.table.Layout.{Layout}
use Rattle.shape_tree.specs.Slots.{latest}
use Rattle.shape_tree.specs.Layouts.{Lists, Fits, HasPlace, slots_of, slots_with, table_at}
use Rattle.shape_tree.specs.Shapes.{IsRow, IsTree, row_at, shapes_of}
use Rattle.shape_tree.proofs.Log.{latest-slots_on, length-slots_on}

length-slots_with : (table : List Slot) (places : ℕ) (own : Option Slot) → places ≤ length table → HasPlace places own → length (slots_with table places own) ≡ places
length-slots_with table places None long has = length-take-le places table long
length-slots_with table places (Some slot) long has =
    omega (arith, length-append (take (places - 1) table) (slot ∷ []), length-take-le (places - 1) table (omega arith))

-- a layout has as many slots as places
pub length-slots_of : (tables : Lists) (layout : Layout) → Fits tables layout → length (slots_of tables layout) ≡ layout.places
length-slots_of tables layout fits = length-slots_with (table_at tables layout.table) layout.places layout.own fits.long fits.own

module _ (keys : List Key) (rows : List Row) (tables : Lists) (shapes : List Shape) (id : ShapeId) (row : Row)
    (tree : IsTree keys rows tables) (seen : shapes_of keys ≡ shapes) (known : id.0 < length shapes) (is : row ≡ row_at rows id.0) where
  -- the row that was read is the shape's
  pub row_is : IsRow tables (shape_at shapes id) row
  row_is =
      let within : id.0 < length keys = subst (λ n. id.0 < n) (sym (ap length seen) ∙ tree.counted) known in
      subst (λ (s : List Shape). IsRow tables (shape_at s id) row) seen
      (subst (IsRow tables (shape_at (shapes_of keys) id)) (sym is) (tree.kept id.0 within))

  -- what is found in its layout is what its path says
  pub finds : (name : NameId) → latest (slots_of tables row.layout) name ≡ find_on (path_at shapes id) name
  finds name = ap (λ (s : List Slot). latest s name) row_is.slots ∙ latest-slots_on (path_at shapes id) name

  -- and it has the places of its path
  pub places_are : row.layout.places ≡ places_of (path_at shapes id)
  places_are = sym (length-slots_of tables row.layout row_is.fits) ∙ ap length row_is.slots ∙ length-slots_on (path_at shapes id)
