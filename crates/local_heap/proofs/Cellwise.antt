-- The cells of a heap, as its shape store grows, and where one of them changes or comes behind the others.
use Rattle.std.proofs.Common.{◌≡◌, ℕ, zero, suc, ◌<◌, ◌==◌, Bool, true, false, cond, List, [], ◌∷◌, ◌++◌, map, length, get_or, set, Option, Some, None, inl, inr, refl, ap, sym, ◌∙◌, subst, arith, length-append}
use Rattle.std.specs.Prelude.{slice_get, ◌⊎◌, Result, Ok, Err, OnOk, OnErr}
use Rattle.std.specs.Option.{option_map}
use Rattle.std.specs.List.{AllByRecursion}
use Rattle.std.proofs.lemmas.Option.{slice_get_read, slice_get_within}
use Rattle.rb_tree.specs.declared.span.NameId.{NameId}
use Rattle.rb_model.specs.declared.value.Id.{Id}
use Rattle.rb_model.specs.Values.{Value as Val, or_nil}
use Rattle.rb_model.specs.Values as val
use Rattle.rb_model.specs.Acts.{Act, SetField}
use Rattle.rb_model.specs.Things.{Thing, Field, becomes}
use Rattle.rb_model.specs.Things as thing
use Rattle.rb_model.specs.Paths.{shape_behind}
use Rattle.rb_model.specs.Private.{held, or_none}
use Rattle.shape_core.specs.declared.edge.Kind.{Kind}
use Rattle.shape_core.specs.declared.edge.Kind.TheVariants.{IntLoc, AnyLoc}
use Rattle.shape_core.specs.declared.facts.ShapeId.{ShapeId}
use Rattle.shape_core.specs.declared.facts.Place.{Place}
use Rattle.shape_core.specs.Path.{Path, IsPath, find_on, names_on, places_of}
use Rattle.shape_core.specs.Shape.{Shape, Gains, shape_at, path_at}
use Rattle.shape_core.proofs.Paths.{Found}
use Rattle.shape_core.proofs.Stores.{shape_at-older}
use Rattle.typed_location.specs.declared.general_place.Any.{Any}
use Rattle.typed_location.specs.declared.general_place.Any.TheVariants as any
use Rattle.local_heap.specs.declared.object.Object.{Object}
use Rattle.local_heap.specs.declared.cells.Cell.{Cell}
use Rattle.local_heap.specs.declared.cells.Cell.TheVariants as cell
use Rattle.local_heap.specs.Contents.{listed}
use Rattle.local_heap.specs.Limits.{IsWithin}
use Rattle.local_heap.specs.Words.{any_of}
use Rattle.local_heap.specs.Slots.{Home, Standing, IsWord, Stands, meaning, own, slot_at, thing_meaning, to_own}
use Rattle.local_heap.specs.Fields.{AreWords, fields_of, field_of, field_found, value_by}
use Rattle.local_heap.specs.Cells.{IsObject, IsSound, AreKnown, AreSound, class_in, private_by, shape_in, shaped_in, still, thing_in}
use Rattle.local_heap.proofs.Inverse.{any_of-word_of}

-- the shapes of a store keep their numbers
abbrev pub Grows : List Shape → List Shape → Type 0
Grows old new = (id : ShapeId) → id.0 < length old → (id.0 < length new) × (shape_at new id ≡ shape_at old id)

pub grows : (old new : List Shape) (shape : Shape) → Gains old shape new → Grows old new
grows old new shape (inl w) id known = (subst (λ (s : List Shape). id.0 < length s) (sym w.1) known, ap (λ (s : List Shape). shape_at s id) w.1)
grows old new shape (inr w) id known =
    let longer : id.0 < length (old ++ shape ∷ []) = omega (arith, length-append old (shape ∷ [])) in (
      subst (λ (s : List Shape). id.0 < length s) (sym w.1) longer,
      ap (λ (s : List Shape). shape_at s id) w.1 ∙ shape_at-older old shape id known,
    )

pub stays_grown : (old new : List Shape) → new ≡ old → Grows old new
stays_grown old new same id known = (subst (λ (s : List Shape). id.0 < length s) (sym same) known, ap (λ (s : List Shape). shape_at s id) same)

-- what a call that may fail leaves is the one or the other
pub either : {T E P Q : Type 0} (r : Result T E) → OnOk r P → OnErr r Q → P ⊎ Q
either (Ok x) p q = inl p
either (Err e) p q = inr q

pub map_same : {A B : Type 0} (f g : A → B) (xs : List A) → ((x : A) → f x ≡ g x) → map f xs ≡ map g xs
map_same f g [] same = refl
map_same f g (x ∷ xs) same =
    let one = same x in
    let rest = map_same f g xs same in
    cc

-- ---- a heap with more objects

-- the objects of a heap keep their classes
pub record Holds (home home' : Home) : Type 0 where
  pub thread : home'.thread ≡ home.thread
  pub longer : (n : ℕ) → n < length home.classes → n < length home'.classes
  pub same : (n : ℕ) → n < length home.classes → own home' n ≡ own home n

pub holds_itself : (home : Home) → Holds home home
holds_itself home = record { thread = refl; longer = λ n h. h; same = λ n h. refl }

older_class : (xs : List (Option ℕ)) (x : Option ℕ) (n : ℕ) → n < length xs → or_none (slice_get (xs ++ x ∷ []) n) ≡ or_none (slice_get xs n)
older_class [] x n h = absurd (omega (arith, h))
older_class (y ∷ xs) x zero h = refl
older_class (y ∷ xs) x (suc n) h = older_class xs x n (omega (arith, h))

pub holds_more : (thread : ℕ) (classes : List (Option ℕ)) (class : Option ℕ) → Holds (record { thread = thread; classes = classes }) (record { thread = thread; classes = classes ++ class ∷ [] })
holds_more thread classes class = record {
  thread = refl;
  longer = λ n h. omega (arith, h, length-append classes (class ∷ []));
  same = λ n h. ap (λ c. or_nil (option_map (to_own thread n) c)) (older_class classes class n h);
}

module _ (home home' : Home) (more : Holds home home') where
  thing_keeps_meaning : (whole : Val) (n : ℕ) → (whole ≡ val.Nil → n < length home.classes) → thing_meaning home' whole n ≡ thing_meaning home whole n
  thing_keeps_meaning val.Nil n stands = more.same n (stands refl)
  thing_keeps_meaning val.False n stands = refl
  thing_keeps_meaning val.True n stands = refl
  thing_keeps_meaning (val.Int i) n stands = refl
  thing_keeps_meaning (val.Sym s) n stands = refl
  thing_keeps_meaning (val.Str t) n stands = refl
  thing_keeps_meaning (val.To r) n stands = refl

  means_same : (whole : Val) (it : Any) → Stands home whole it → meaning home' whole it ≡ meaning home whole it
  means_same whole any.Nil stands = refl
  means_same whole any.False stands = refl
  means_same whole any.True stands = refl
  means_same whole (any.Small n) stands = refl
  means_same whole (any.Sym n) stands = refl
  means_same whole (any.Text n) stands = refl
  means_same whole (any.Boxed n) stands = refl
  means_same whole (any.Thing n) stands = thing_keeps_meaning whole n stands

  stands_more : (whole : Val) (it : Any) → Stands home whole it → Stands home' whole it
  stands_more whole any.Nil stands = tt
  stands_more whole any.False stands = tt
  stands_more whole any.True stands = tt
  stands_more whole (any.Small n) stands = tt
  stands_more whole (any.Sym n) stands = tt
  stands_more whole (any.Text n) stands = tt
  stands_more whole (any.Boxed n) stands = tt
  stands_more whole (any.Thing n) stands = λ e. more.longer n (stands e)

  word_keeps : (slot : Standing) → IsWord home slot → IsWord home' slot
  word_keeps slot is = record { any = is.any; fits = is.fits; stands = stands_more slot.whole is.any is.stands; is = is.is }

  value_keeps : (slot : Standing) → IsWord home slot → value_by home' AnyLoc slot ≡ value_by home AnyLoc slot
  value_keeps slot is =
      let e : any_of slot.word ≡ is.any = ap any_of (sym is.is) ∙ any_of-word_of is.any is.fits in
      ap (meaning home' slot.whole) e ∙ means_same slot.whole is.any is.stands ∙ ap (meaning home slot.whole) (sym e)

  field_keeps : (path : Path) (slots : ℕ → Standing) (m : NameId) → AreWords home path slots → field_of home' path slots m ≡ field_of home path slots m
  field_keeps path slots m sound = by (find_on path m) refl
    where
      here : (place : Place) (kind : Kind) → find_on path m ≡ Some (place, kind)
          → field_found home' slots m (Some (place, kind)) ≡ field_found home slots m (Some (place, kind))
      here place IntLoc e = refl
      here place AnyLoc e = ap (λ v. record { name = m; value = v; wide = true }) (value_keeps (slots place.0) (sound m place e))

      by : (o : Option Found) → find_on path m ≡ o → field_found home' slots m o ≡ field_found home slots m o
      by None e = refl
      by (Some found) e = here found.0 found.1 e

  fields_keep : (path : Path) (slots : ℕ → Standing) → AreWords home path slots → fields_of home' path slots ≡ fields_of home path slots
  fields_keep path slots sound = map_same (field_of home' path slots) (field_of home path slots) (names_on path) (λ m. field_keeps path slots m sound)

module _ (shapes shapes' : List Shape) (home home' : Home) (grown : Grows shapes shapes') (more : Holds home home') where
  pub object_keeps : (o : Object) → IsObject shapes o → IsObject shapes' o
  object_keeps o is =
      let g = grown o.shape is.known in
      record {
        known = g.0;
        valid = subst (λ (s : Shape). IsPath s.path) (sym g.1) is.valid;
        long = is.long ∙ ap (λ (s : Shape). places_of s.path) (sym g.1);
      }

  pub sound_keeps : (o : Object) → IsObject shapes o → IsSound shapes home o → IsSound shapes' home' o
  sound_keeps o is sound =
      subst (λ (s : Shape). AreWords home' s.path (slot_at o)) (sym (grown o.shape is.known).1) (λ name place at. word_keeps home home' more (slot_at o place.0) (sound name place at))

  pub thing_keeps : (o : Object) → IsObject shapes o → IsSound shapes home o → thing_in shapes' home' o ≡ thing_in shapes home o
  thing_keeps o is sound =
      ap (λ (s : Shape). thing.Object s.class (fields_of home' s.path (slot_at o))) (grown o.shape is.known).1
      ∙ ap (thing.Object (shape_in shapes o).class) (fields_keep home home' more (path_at shapes o.shape) (slot_at o) sound)

  pub known_keep : (cells : List Cell) → AreKnown shapes cells → AreKnown shapes' cells
  known_keep [] are = tt
  known_keep (cell.Empty k ∷ cells) are = (tt, known_keep cells are.1)
  known_keep (cell.Object o ∷ cells) are = (object_keeps o are.0, known_keep cells are.1)
  known_keep (cell.List list ∷ cells) are = (tt, known_keep cells are.1)
  known_keep (cell.Pairs pairs ∷ cells) are = (tt, known_keep cells are.1)
  known_keep (cell.Mutex owner ∷ cells) are = (tt, known_keep cells are.1)

  pub sound_all : (cells : List Cell) → AreKnown shapes cells → AreSound shapes home cells → AreSound shapes' home' cells
  sound_all [] are sound = tt
  sound_all (cell.Empty k ∷ cells) are sound = (tt, sound_all cells are.1 sound.1)
  sound_all (cell.Object o ∷ cells) are sound = (sound_keeps o are.0 sound.0, sound_all cells are.1 sound.1)
  sound_all (cell.List list ∷ cells) are sound = (sound.0, sound_all cells are.1 sound.1)
  sound_all (cell.Pairs pairs ∷ cells) are sound = (sound.0, sound_all cells are.1 sound.1)
  sound_all (cell.Mutex owner ∷ cells) are sound = (subst (λ t. IsWithin t (thing.Mutex owner)) (sym more.thread) sound.0, sound_all cells are.1 sound.1)

  pub things_keep : (cells : List Cell) → AreKnown shapes cells → AreSound shapes home cells → map (still shapes' home') cells ≡ map (still shapes home) cells
  things_keep [] are sound = refl
  things_keep (cell.Empty k ∷ cells) are sound = ap (λ ts. None ∷ ts) (things_keep cells are.1 sound.1)
  things_keep (cell.Object o ∷ cells) are sound =
      let one = thing_keeps o are.0 sound.0 in
      let rest = things_keep cells are.1 sound.1 in
      cc
  things_keep (cell.List list ∷ cells) are sound = ap (λ ts. Some (listed list) ∷ ts) (things_keep cells are.1 sound.1)
  things_keep (cell.Pairs pairs ∷ cells) are sound = ap (λ ts. Some (thing.Pairs pairs) ∷ ts) (things_keep cells are.1 sound.1)
  things_keep (cell.Mutex owner ∷ cells) are sound = ap (λ ts. Some (thing.Mutex owner) ∷ ts) (things_keep cells are.1 sound.1)

  pub shaped_keep : (cells : List Cell) → AreKnown shapes cells → map (shaped_in shapes') cells ≡ map (shaped_in shapes) cells
  shaped_keep [] are = refl
  shaped_keep (cell.Empty k ∷ cells) are = ap (λ ts. None ∷ ts) (shaped_keep cells are.1)
  shaped_keep (cell.Object o ∷ cells) are =
      let one = (grown o.shape are.0.known).1 in
      let rest = shaped_keep cells are.1 in
      cc
  shaped_keep (cell.List list ∷ cells) are = ap (λ ts. None ∷ ts) (shaped_keep cells are.1)
  shaped_keep (cell.Pairs pairs ∷ cells) are = ap (λ ts. None ∷ ts) (shaped_keep cells are.1)
  shaped_keep (cell.Mutex owner ∷ cells) are = ap (λ ts. None ∷ ts) (shaped_keep cells are.1)

  pub class_keep : (cells : List Cell) → AreKnown shapes cells → map (class_in shapes') cells ≡ map (class_in shapes) cells
  class_keep [] are = refl
  class_keep (cell.Empty k ∷ cells) are = ap (λ ts. k ∷ ts) (class_keep cells are.1)
  class_keep (cell.Object o ∷ cells) are =
      let one = (grown o.shape are.0.known).1 in
      let rest = class_keep cells are.1 in
      cc
  class_keep (cell.List list ∷ cells) are = ap (λ ts. None ∷ ts) (class_keep cells are.1)
  class_keep (cell.Pairs pairs ∷ cells) are = ap (λ ts. None ∷ ts) (class_keep cells are.1)
  class_keep (cell.Mutex owner ∷ cells) are = ap (λ ts. None ∷ ts) (class_keep cells are.1)

-- ---- lists of cells

module _ (P : Cell → Type 0) where
  pub all_push : (cells : List Cell) (c : Cell) → AllByRecursion P cells → P c → AllByRecursion P (cells ++ c ∷ [])
  all_push [] c are is = (is, tt)
  all_push (x ∷ cells) c are is = (are.0, all_push cells c are.1 is)

  pub all_set : (cells : List Cell) (i : ℕ) (c : Cell) → AllByRecursion P cells → P c → AllByRecursion P (set cells i c)
  all_set [] i c are is = tt
  all_set (x ∷ cells) zero c are is = (is, are.1)
  all_set (x ∷ cells) (suc i) c are is = (are.0, all_set cells i c are.1 is)

  pub all_at : (cells : List Cell) (i : ℕ) (c : Cell) → AllByRecursion P cells → slice_get cells i ≡ Some c → P c
  all_at [] i c are e = absurd (cc)
  all_at (x ∷ cells) zero c are e = let same : x ≡ c = cc in subst P same are.0
  all_at (x ∷ cells) (suc i) c are e = all_at cells i c are.1 e

-- ---- what stands at a serial number

held_on : (b : Bool) (o : Option Thing) (x : Thing) → cond b o None ≡ Some x → o ≡ Some x
held_on true o x e = e
held_on false o x e = absurd (cc)

in_cells : {X : Type 0} (f : Cell → Option X) (cells : List Cell) (i : ℕ) (x : X) → or_none (slice_get (map f cells) i) ≡ Some x → (c : Cell) × (slice_get cells i ≡ Some c) × (f c ≡ Some x)
in_cells f [] i x e = absurd (cc)
in_cells f (c ∷ cells) zero x e = (c, refl, e)
in_cells f (c ∷ cells) (suc i) x e = in_cells f cells i x e

-- the cell of a thing that is held
pub held_cell : (thread : ℕ) (shapes : List Shape) (home : Home) (cells : List Cell) (id : Id) (x : Thing)
    → held (private_by thread shapes home cells) id ≡ Some x → (c : Cell) × (slice_get cells id.serial ≡ Some c) × (still shapes home c ≡ Some x)
held_cell thread shapes home cells id x e = in_cells (still shapes home) cells id.serial x (held_on (id.thread == thread) _ x e)

pub read_at : (cells : List Cell) (i : ℕ) (c d : Cell) → slice_get cells i ≡ Some d → c ≡ get_or cells i c → c ≡ d
read_at cells i c d found read =
    let within = slice_get_within cells i d found in
    let same : slice_get cells i ≡ Some c = slice_get_read cells (length cells) i c refl within read in
    cc

-- the shape of the thing at a serial number
pub shaped_there : (shapes : List Shape) (cells : List Cell) (i : ℕ) (c : Cell) → slice_get cells i ≡ Some c
    → or_none (slice_get (map (shaped_in shapes) cells) i) ≡ shaped_in shapes c
shaped_there shapes [] i c e = absurd (cc)
shaped_there shapes (d ∷ cells) zero c e = let same : d ≡ c = cc in ap (λ (x : Cell). shaped_in shapes x) same
shaped_there shapes (d ∷ cells) (suc i) c e = shaped_there shapes cells i c e

-- that of an object
pub shaped_at : (shapes : List Shape) (cells : List Cell) (i : ℕ) (o : Object) → slice_get cells i ≡ Some (cell.Object o)
    → or_none (slice_get (map (shaped_in shapes) cells) i) ≡ Some (shape_in shapes o)
shaped_at shapes cells i o e = shaped_there shapes cells i (cell.Object o) e

-- the classes of cells where what is put at a number has the class of what was there
pub class_put : (shapes : List Shape) (cells : List Cell) (i : ℕ) (c : Cell) (class : Option ℕ) → slice_get cells i ≡ Some c → class ≡ class_in shapes c
    → set (map (class_in shapes) cells) i class ≡ map (class_in shapes) cells
class_put shapes [] i c class e same = absurd (cc)
class_put shapes (d ∷ cells) zero c class e same =
    let one : d ≡ c = cc in
    ap (λ x. x ∷ map (class_in shapes) cells) (same ∙ ap (class_in shapes) (sym one))
class_put shapes (d ∷ cells) (suc i) c class e same = ap (λ xs. class_in shapes d ∷ xs) (class_put shapes cells i c class e same)

-- a shape keeps its class behind an act
pub class_behind : (act : Act) (shape : Shape) → (shape_behind act shape).class ≡ shape.class
class_behind act shape = by act
  where
    by : (act : Act) → (shape_behind act shape).class ≡ shape.class
    by (SetField name v) = refl
    by other = refl
