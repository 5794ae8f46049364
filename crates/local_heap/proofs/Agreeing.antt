-- The shape of an object agrees with its fields.
use Rattle.std.proofs.Common.{◌≡◌, ◌==◌, ℕ, Bool, true, false, cond, List, [], ◌∷◌, ◌++◌, map, Option, Some, None, refl, ap, sym, ◌∙◌, subst}
use Rattle.std.specs.Prelude.{is_some, slice_get}
use Rattle.std.specs.List.{AllByRecursion}
use Rattle.std.specs.Option.{option_map}
use Rattle.rb_tree.specs.declared.span.NameId.{NameId}
use Rattle.rb_model.specs.declared.value.Id.{Id}
use Rattle.rb_model.specs.Things.{Thing, Field}
use Rattle.rb_model.specs.Things as things
use Rattle.rb_model.specs.Private.{Private, shape_held}
use Rattle.shape_core.specs.declared.edge.Kind.{Kind}
use Rattle.shape_core.specs.declared.edge.Kind.TheVariants.{IntLoc, AnyLoc}
use Rattle.shape_core.specs.declared.edge.Edge.TheVariants.{Add, Widen, Share}
use Rattle.shape_core.specs.Path.{Path, find_on, kind_on, names_on, next_place}
use Rattle.shape_core.specs.Shape.{Shape}
use Rattle.shape_core.proofs.Paths.{Found, own_name}
use Rattle.local_heap.specs.declared.cells.Cell.{Cell}
use Rattle.local_heap.specs.declared.cells.Cell.TheVariants as cell
use Rattle.local_heap.specs.Contents.{listed}
use Rattle.local_heap.specs.Agreement.{Agrees, AgreesWith, AgreesAt, IsWideEnough, is_wide}
use Rattle.local_heap.specs.Slots.{Home, Standing, slot_at}
use Rattle.local_heap.specs.Fields.{field_of, field_found, is_any}
use Rattle.local_heap.specs.Cells.{AreKnown, IsKnown, private_by, still, thing_in, shape_in}
use Rattle.local_heap.proofs.Named.{once_found}
use Rattle.local_heap.proofs.Laid.{named}
use Rattle.local_heap.proofs.Cellwise.{all_at, held_cell, shaped_at, shaped_there}

module _ (home : Home) (path : Path) (slots : ℕ → Standing) where
  names_agree : (ns : List NameId) → map (λ (f : Field). f.name) (map (field_of home path slots) ns) ≡ ns
  names_agree [] = refl
  names_agree (n ∷ ns) =
      let one = named home path slots n in
      let rest = names_agree ns in
      cc

  wide_agrees : (n : NameId) → (field_of home path slots n).wide ≡ is_wide (kind_on path n)
  wide_agrees n = by (find_on path n)
    where
      by_kind : (kind : Kind) → is_any kind ≡ is_wide (Some kind)
      by_kind IntLoc = refl
      by_kind AnyLoc = refl

      by : (o : Option Found) → (field_found home slots n o).wide ≡ is_wide (option_map (λ (f : Found). f.1) o)
      by None = refl
      by (Some found) = by_kind found.1

  kinds_agree : (ns : List NameId) → AllByRecursion (λ (f : Field). f.wide ≡ is_wide (kind_on path f.name)) (map (field_of home path slots) ns)
  kinds_agree [] = tt
  kinds_agree (n ∷ ns) =
      (wide_agrees n ∙ ap (λ (m : NameId). is_wide (kind_on path m)) (sym (named home path slots n)), kinds_agree ns)

-- ---- a path finds a place for each of its names

found_too : (b : Bool) (x : Found) (o : Option Found) → is_some o ≡ true → is_some (cond b (Some x) o) ≡ true
found_too true x o e = refl
found_too false x o e = e

module _ (path path' : Path) (keeps : (n : NameId) → is_some (find_on path n) ≡ true → is_some (find_on path' n) ≡ true) where
  all_there : (ns : List NameId) → AllByRecursion (λ n. is_some (find_on path n) ≡ true) ns → AllByRecursion (λ n. is_some (find_on path' n) ≡ true) ns
  all_there [] are = tt
  all_there (n ∷ ns) are = (keeps n are.0, all_there ns are.1)

  one_more : (ns : List NameId) (m : NameId) → AllByRecursion (λ n. is_some (find_on path n) ≡ true) ns → is_some (find_on path' m) ≡ true
      → AllByRecursion (λ n. is_some (find_on path' n) ≡ true) (ns ++ m ∷ [])
  one_more [] m are own = (own, tt)
  one_more (n ∷ ns) m are own = (keeps n are.0, one_more ns m are.1 own)

names_found : (path : Path) → AllByRecursion (λ n. is_some (find_on path n) ≡ true) (names_on path)
names_found [] = tt
names_found (Add m kind ∷ path) =
    one_more path (Add m kind ∷ path) (λ n. found_too (m.0 == n.0) (next_place path, kind) (find_on path n)) (names_on path) m (names_found path)
    (ap (λ b. is_some (cond b (Some (next_place path, kind)) (find_on path m))) (own_name m))
names_found (Widen m ∷ path) =
    all_there path (Widen m ∷ path) (λ n. found_too (m.0 == n.0) (next_place path, AnyLoc) (find_on path n)) (names_on path) (names_found path)
names_found (Share ∷ path) = names_found path

-- what stands at a place for integers is one
module _ (home : Home) (path : Path) (slots : ℕ → Standing) where
  wide_enough : (n : NameId) → is_some (find_on path n) ≡ true → IsWideEnough (field_of home path slots n)
  wide_enough n there = by (find_on path n) there
    where
      by : (o : Option Found) → is_some o ≡ true → IsWideEnough (field_found home slots n o)
      by None e = absurd (cc)
      by (Some (place, IntLoc)) e = λ other. absurd (let wrong : true ≡ false = other in cc)
      by (Some (place, AnyLoc)) e = λ other. refl

  all_wide : (ns : List NameId) → AllByRecursion (λ n. is_some (find_on path n) ≡ true) ns → AllByRecursion IsWideEnough (map (field_of home path slots) ns)
  all_wide [] are = tt
  all_wide (n ∷ ns) are = (wide_enough n are.0, all_wide ns are.1)

-- the thing of a cell agrees with the shape of the cell
cell_agrees : (thread : ℕ) (shapes : List Shape) (home : Home) (cells : List Cell) (id : Id) (c : Cell) (thing : Thing)
    → slice_get cells id.serial ≡ Some c → IsKnown shapes c → still shapes home c ≡ Some thing → AgreesWith (shape_held (private_by thread shapes home cells) id) thing
cell_agrees thread shapes home cells id (cell.Empty k) thing at known is = absurd (cc)
cell_agrees thread shapes home cells id (cell.List list) thing at known is =
    let same : listed list ≡ thing = cc in
    subst (AgreesWith (shape_held (private_by thread shapes home cells) id)) same
    (subst (λ (s : Option Shape). AgreesWith s (listed list)) (sym (shaped_there shapes cells id.serial (cell.List list) at)) refl)
cell_agrees thread shapes home cells id (cell.Pairs pairs) thing at known is =
    let same : things.Pairs pairs ≡ thing = cc in
    subst (AgreesWith (shape_held (private_by thread shapes home cells) id)) same
    (subst (λ (s : Option Shape). AgreesWith s (things.Pairs pairs)) (sym (shaped_there shapes cells id.serial (cell.Pairs pairs) at)) refl)
cell_agrees thread shapes home cells id (cell.Mutex owner) thing at known is =
    let same : things.Mutex owner ≡ thing = cc in
    subst (AgreesWith (shape_held (private_by thread shapes home cells) id)) same
    (subst (λ (s : Option Shape). AgreesWith s (things.Mutex owner)) (sym (shaped_there shapes cells id.serial (cell.Mutex owner) at)) refl)
cell_agrees thread shapes home cells id (cell.Object o) thing at known is =
    let same : thing_in shapes home o ≡ thing = cc in
    let path : Path = (shape_in shapes o).path in
    let agrees : Agrees (shape_in shapes o) (shape_in shapes o).class (map (field_of home path (slot_at o)) (names_on path)) = record {
      classes = refl;
      names = names_agree home path (slot_at o) (names_on path);
      kinds = kinds_agree home path (slot_at o) (names_on path);
      once = once_found (field_of home path (slot_at o)) (named home path (slot_at o)) path known.valid;
      wide = all_wide home path (slot_at o) (names_on path) (names_found path);
    } in
    subst (AgreesWith (shape_held (private_by thread shapes home cells) id)) same
    (subst (λ (s : Option Shape). AgreesWith s (thing_in shapes home o)) (sym (shaped_at shapes cells id.serial o at)) agrees)

pub private_agrees : (thread : ℕ) (shapes : List Shape) (home : Home) (cells : List Cell) (h : Private) (id : Id) → AreKnown shapes cells → private_by thread shapes home cells ≡ h → AgreesAt h id
private_agrees thread shapes home cells h id known is =
    subst (λ (g : Private). AgreesAt g id) is
    (λ thing e. let found = held_cell thread shapes home cells id thing e in cell_agrees thread shapes home cells id found.0 thing found.1 (all_at (IsKnown shapes) cells id.serial found.0 known found.1) found.2)
