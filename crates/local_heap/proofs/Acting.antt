-- A heap before and behind an act on one of its objects, and before and behind a new one.
use Rattle.std.proofs.Common.{◌≡◌, ℕ, ◌<◌, List, [], ◌∷◌, ◌++◌, map, length, get_or, set, Option, Some, None, inl, refl, ap, sym, ◌∙◌, subst}
use Rattle.std.specs.Prelude.{slice_get, IsSome}
use Rattle.std.specs.Option.{option_map}
use Rattle.std.proofs.lemmas.List.{map_push, map-set, set-get_or}
use Rattle.rb_tree.specs.declared.span.NameId.{NameId}
use Rattle.rb_model.specs.declared.value.Id.{Id}
use Rattle.rb_model.specs.Values.{Value as Val}
use Rattle.rb_model.specs.Acts.{Act, GetField, SetField}
use Rattle.rb_model.specs.Things.{Thing, Field, becomes_by}
use Rattle.rb_model.specs.Things as thing
use Rattle.rb_model.specs.Paths.{shape_behind}
use Rattle.rb_model.specs.Private.{Private, held, shape_held, changed, acted as acted_by, entered}
use Rattle.shape_core.specs.declared.facts.ShapeId.{ShapeId}
use Rattle.shape_core.specs.Path.{IsPath, names_on, places_of}
use Rattle.shape_core.specs.Shape.{Shape, Gains, Has, shape_at, path_at, root_of}
use Rattle.shape_core.proofs.Places.{below}
use Rattle.shape_core.proofs.Sames.{gains_is_with}
use Rattle.local_heap.specs.declared.object.Object.{Object}
use Rattle.local_heap.specs.declared.cells.Cell.{Cell}
use Rattle.local_heap.specs.declared.cells.Cell.TheVariants as cell
use Rattle.local_heap.specs.declared.slot.Whose.{Whose}
use Rattle.local_heap.specs.Slots.{Home, IsOwnBy, IsWord, slot_at}
use Rattle.local_heap.specs.Fields.{AreWords, field_of, fields_of}
use Rattle.local_heap.specs.Cells.{IsObject, IsSound, Acted, Written, Unwritten, AreKnown, AreSound, IsKnown, IsCell, class_in, fields_in, home_by, private_by, shape_in, shaped_in, still, thing_in}
use Rattle.local_heap.proofs.Laid.{field_stays}
use Rattle.local_heap.proofs.Objects.{stands_in}
use Rattle.local_heap.proofs.Cellwise.{Grows, grows, stays_grown, map_same, Holds, holds_itself, holds_more, known_keep, sound_all, things_keep, shaped_keep, all_push, all_set, all_at, held_cell, read_at, shaped_at, class_put, class_keep, class_behind}

abbrev parts : ℕ → List (Option Thing) → List (Option Shape) → List Shape → Private
parts thread things shaped shapes = record { thread = thread; things = things; shaped = shaped; shapes = shapes }

-- the invariant of a heap
abbrev pub AreWhole : ℕ → List Shape → List Cell → Type 0
AreWhole thread shapes cells = AreKnown shapes cells × AreSound shapes (home_by thread shapes cells) cells

abbrev pub private_now : ℕ → List Shape → List Cell → Private
private_now thread shapes cells = private_by thread shapes (home_by thread shapes cells) cells

-- where nothing changed
pub same_private : (thread : ℕ) (shapes : List Shape) (cells : List Cell) (h : Private) (shapes' : List Shape) (cells' : List Cell) → private_now thread shapes cells ≡ h
    → shapes' ≡ shapes → cells' ≡ cells → private_now thread shapes' cells' ≡ h
same_private thread shapes cells h shapes' cells' is shapes_stay cells_stay = ap (λ s. private_now thread s cells') shapes_stay ∙ ap (private_now thread shapes) cells_stay ∙ is

pub same_cells : (thread : ℕ) (shapes : List Shape) (cells : List Cell) (shapes' : List Shape) (cells' : List Cell) → AreWhole thread shapes cells
    → shapes' ≡ shapes → cells' ≡ cells → AreWhole thread shapes' cells'
same_cells thread shapes cells shapes' cells' are shapes_stay cells_stay =
    subst (λ s. AreWhole thread s cells') (sym shapes_stay) (subst (AreWhole thread shapes) (sym cells_stay) are)

-- a write is an act
pub written_acted : (shapes : List Shape) (home : Home) (o : Object) (name : NameId) (v : Val) (whose : Whose) (shapes' : List Shape) (o' : Object)
    → Written shapes o name v whose shapes' o' → IsSound shapes home o → IsOwnBy home whose v → Acted shapes home o (SetField name v) shapes' o'
written_acted shapes home o name v whose shapes' o' written sound own =
    let wrote = written.wrote home sound own in
    record {
      object = written.object;
      sound = wrote.sound;
      shape = written.shape;
      thing = ap (λ (s : Shape). thing.Object s.class (fields_in shapes' home o')) written.shape ∙ ap (thing.Object (shape_in shapes o).class) wrote.fields;
      gains = written.gains;
    }

-- and so is a read
pub read_acted : (shapes : List Shape) (home : Home) (o : Object) (name : NameId) → IsObject shapes o → IsSound shapes home o → Acted shapes home o (GetField name) shapes o
read_acted shapes home o name is sound = record { object = is; sound = sound; shape = refl; thing = refl; gains = inl (stands_in shapes o.shape is.known, refl) }

-- an object that a failed write left
module _ (shapes : List Shape) (home : Home) (o : Object) (shapes' : List Shape) (o' : Object) (is : IsObject shapes o) (left : Unwritten shapes o shapes' o') where
  same_shape : shape_in shapes' o' ≡ shape_in shapes o
  same_shape = ap (shape_at shapes') left.shape ∙ ap (λ (s : List Shape). shape_at s o.shape) left.shapes_stay

  same_slots : (p : ℕ) → p < places_of (path_at shapes o.shape) → slot_at o' p ≡ slot_at o p
  same_slots p h = left.whole p (subst (λ n. p < n) (sym is.long) h)

  pub left_object : IsObject shapes' o'
  left_object = record {
    known = subst (λ (s : List Shape). o'.shape.0 < length s) (sym left.shapes_stay) (subst (λ (i : ShapeId). i.0 < length shapes) (sym left.shape) is.known);
    valid = subst (λ (s : Shape). IsPath s.path) (sym same_shape) is.valid;
    long = ap length left.words ∙ is.long ∙ ap (λ (s : Shape). places_of s.path) (sym same_shape);
  }

  pub left_sound : IsSound shapes home o → IsSound shapes' home o'
  left_sound sound =
      subst (λ (s : Shape). AreWords home s.path (slot_at o')) (sym same_shape)
      (λ name place at. subst (IsWord home) (sym (same_slots place.0 (below (path_at shapes o.shape) name place _ at))) (sound name place at))

  pub left_thing : thing_in shapes' home o' ≡ thing_in shapes home o
  left_thing =
      ap (λ (s : Shape). thing.Object s.class (fields_of home s.path (slot_at o'))) same_shape
      ∙ ap (thing.Object (shape_in shapes o).class)
      (map_same (field_of home (path_at shapes o.shape) (slot_at o')) (field_of home (path_at shapes o.shape) (slot_at o)) (names_on (path_at shapes o.shape))
      (λ m. field_stays home (path_at shapes o.shape) (path_at shapes o.shape) (slot_at o) (slot_at o') m refl
      (λ place kind at. same_slots place.0 (below (path_at shapes o.shape) m place kind at))))

module _ (thread : ℕ) (shapes : List Shape) (cells : List Cell) (h : Private) (is : private_by thread shapes (home_by thread shapes cells) cells ≡ h)
    (id : Id) (held_here : IsSome (held h id)) (c : Cell) (o : Object) (read : c ≡ get_or cells id.serial c) (at : c ≡ cell.Object o)
    (known : AreKnown shapes cells) (sound : AreSound shapes (home_by thread shapes cells) cells) where
  abbrev home : Home
  home = home_by thread shapes cells

  some_thing : (found : Option Thing) → IsSome found → (x : Thing) × (found ≡ Some x)
  some_thing None e = absurd (cc)
  some_thing (Some x) e = (x, refl)

  seen_held : held (private_by thread shapes home cells) id ≡ held h id
  seen_held = ap (λ (g : Private). held g id) is

  there : slice_get cells id.serial ≡ Some (cell.Object o)
  there =
      let x = some_thing (held h id) held_here in
      let found = held_cell thread shapes home cells id x.0 (seen_held ∙ x.1) in
      let same : c ≡ found.0 = read_at cells id.serial c found.0 found.1 read in
      found.1 ∙ ap Some (sym same ∙ at)

  -- a thing that is held is its object
  pub thing_is : (x : Thing) → held h id ≡ Some x → thing_in shapes home o ≡ x
  thing_is x e =
      let found = held_cell thread shapes home cells id x (seen_held ∙ e) in
      let same : c ≡ found.0 = read_at cells id.serial c found.0 found.1 read in
      let still_is : still shapes home (cell.Object o) ≡ Some x = ap (still shapes home) (sym at ∙ same) ∙ found.2 in
      cc

  pub held_is : held h id ≡ Some (thing_in shapes home o)
  held_is =
      let x = some_thing (held h id) held_here in
      x.1 ∙ ap Some (sym (thing_is x.0 x.1))

  -- and so is its shape
  shape_is : shape_held h id ≡ Some (shape_in shapes o)
  shape_is = ap (λ (g : Private). shape_held g id) (sym is) ∙ shaped_at shapes cells id.serial o there

  pub object_is : IsObject shapes o
  object_is = all_at (IsKnown shapes) cells id.serial (cell.Object o) known there

  pub sound_is : IsSound shapes home o
  sound_is = all_at (IsCell shapes home) cells id.serial (cell.Object o) sound there

  put_back : set cells id.serial (cell.Object o) ≡ cells
  put_back = ap (set cells id.serial) (sym at ∙ read) ∙ set-get_or cells id.serial c

  -- the cells with what the object becomes
  module _ (shapes' : List Shape) (o' : Object) where
    abbrev cells_then : List Cell
    cells_then = set cells id.serial (cell.Object o')

    abbrev home_then : Home
    home_then = home_by thread shapes' cells_then

    -- ---- an act

    module _ (act : Act) (acted : Acted shapes home o act shapes' o') where
      grown : Grows shapes shapes'
      grown = grows shapes shapes' (shape_in shapes' o') acted.gains

      shape_then : option_map (shape_behind act) (shape_held h id) ≡ Some (shape_in shapes' o')
      shape_then = ap (option_map (shape_behind act)) shape_is ∙ ap Some (sym acted.shape)

      acted_things : (x : Thing) → held h id ≡ Some x → map (still shapes' home) cells_then ≡ set (map (still shapes home) cells) id.serial (Some (becomes_by h.thread x act))
      acted_things x e =
          let put : List (Option Thing) → Thing → List (Option Thing) = λ ts t. set ts id.serial (Some t) in
          map-set (still shapes' home) cells id.serial (cell.Object o')
          ∙ ap (λ ts. put ts (thing_in shapes' home o')) (things_keep shapes shapes' home home grown (holds_itself home) cells known sound)
          ∙ ap (put (map (still shapes home) cells)) (acted.thing ∙ ap (λ (t : Thing). becomes_by h.thread t act) (thing_is x e))

      acted_shaped : map (shaped_in shapes') cells_then ≡ set (map (shaped_in shapes) cells) id.serial (Some (shape_in shapes' o'))
      acted_shaped =
          map-set (shaped_in shapes') cells id.serial (cell.Object o')
          ∙ ap (λ ss. set ss id.serial (Some (shape_in shapes' o'))) (shaped_keep shapes shapes' home home grown (holds_itself home) cells known)

      acted_home : home_then ≡ home
      acted_home =
          ap (λ cs. record { thread = thread; classes = cs })
          (map-set (class_in shapes') cells id.serial (cell.Object o')
          ∙ ap (λ cs. set cs id.serial (Some (shape_in shapes' o').class)) (class_keep shapes shapes' home home grown (holds_itself home) cells known)
          ∙ class_put shapes cells id.serial (cell.Object o) _ there (ap Some (ap (λ (s : Shape). s.class) acted.shape ∙ class_behind act (shape_in shapes o))))

      pub acted_cells : AreKnown shapes' cells_then × AreSound shapes' home_then cells_then
      acted_cells = (
        all_set (IsKnown shapes') cells id.serial (cell.Object o') (known_keep shapes shapes' home home grown (holds_itself home) cells known) acted.object,
        subst (λ (g : Home). AreSound shapes' g cells_then) (sym acted_home)
            (all_set (IsCell shapes' home) cells id.serial (cell.Object o') (sound_all shapes shapes' home home grown (holds_itself home) cells known sound) acted.sound),
      )

      pub acted_private : (x : Thing) → held h id ≡ Some x → private_by thread shapes' home_then cells_then ≡ acted_by h id act x
      acted_private x e =
          let changed_by : Private → Private = λ g. changed g id (becomes_by h.thread x act) (Some (shape_in shapes' o')) in
          let old : Private = private_by thread shapes home cells in
          ap (λ (g : Home). private_by thread shapes' g cells_then) acted_home
          ∙ ap (λ ts. parts thread ts (map (shaped_in shapes') cells_then) shapes') (acted_things x e)
          ∙ ap (λ ss. parts thread (changed_by old).things ss shapes') acted_shaped
          ∙ ap (parts thread (changed_by old).things (changed_by old).shaped) (gains_is_with shapes shapes' (shape_in shapes' o') acted.gains)
          ∙ ap changed_by is
          ∙ ap (changed h id (becomes_by h.thread x act)) (sym shape_then)

    -- ---- a write that failed

    module _ (unwritten : Unwritten shapes o shapes' o') where
      left_grown : Grows shapes shapes'
      left_grown = stays_grown shapes shapes' unwritten.shapes_stay

      left_shaped : map (shaped_in shapes') cells_then ≡ map (shaped_in shapes) cells
      left_shaped =
          map-set (shaped_in shapes') cells id.serial (cell.Object o')
          ∙ ap (λ ss. set ss id.serial (Some (shape_in shapes' o'))) (shaped_keep shapes shapes' home home left_grown (holds_itself home) cells known)
          ∙ ap (λ (s : Shape). set (map (shaped_in shapes) cells) id.serial (Some s)) (same_shape shapes home o shapes' o' object_is unwritten)
          ∙ sym (map-set (shaped_in shapes) cells id.serial (cell.Object o))
          ∙ ap (map (shaped_in shapes)) put_back

      left_home : home_then ≡ home
      left_home =
          ap (λ cs. record { thread = thread; classes = cs })
          (map-set (class_in shapes') cells id.serial (cell.Object o')
          ∙ ap (λ cs. set cs id.serial (Some (shape_in shapes' o').class)) (class_keep shapes shapes' home home left_grown (holds_itself home) cells known)
          ∙ class_put shapes cells id.serial (cell.Object o) _ there (ap (λ (s : Shape). Some s.class) (same_shape shapes home o shapes' o' object_is unwritten)))

      pub left_cells : AreKnown shapes' cells_then × AreSound shapes' home_then cells_then
      left_cells = (
        all_set (IsKnown shapes') cells id.serial (cell.Object o') (known_keep shapes shapes' home home left_grown (holds_itself home) cells known)
            (left_object shapes home o shapes' o' object_is unwritten),
        subst (λ (g : Home). AreSound shapes' g cells_then) (sym left_home)
            (all_set (IsCell shapes' home) cells id.serial (cell.Object o') (sound_all shapes shapes' home home left_grown (holds_itself home) cells known sound)
            (left_sound shapes home o shapes' o' object_is unwritten sound_is)),
      )

      left_things : map (still shapes' home) cells_then ≡ map (still shapes home) cells
      left_things =
          let put : List (Option Thing) → Thing → List (Option Thing) = λ ts t. set ts id.serial (Some t) in
          map-set (still shapes' home) cells id.serial (cell.Object o')
          ∙ ap (λ ts. put ts (thing_in shapes' home o')) (things_keep shapes shapes' home home left_grown (holds_itself home) cells known sound)
          ∙ ap (put (map (still shapes home) cells)) (left_thing shapes home o shapes' o' object_is unwritten)
          ∙ sym (map-set (still shapes home) cells id.serial (cell.Object o))
          ∙ ap (map (still shapes home)) put_back

      pub left_private : private_by thread shapes' home_then cells_then ≡ h
      left_private =
          ap (λ (g : Home). private_by thread shapes' g cells_then) left_home
          ∙ ap (λ ts. parts thread ts (map (shaped_in shapes') cells_then) shapes') left_things
          ∙ ap (λ ss. parts thread (map (still shapes home) cells) ss shapes') left_shaped
          ∙ ap (parts thread (map (still shapes home) cells) (map (shaped_in shapes) cells)) unwritten.shapes_stay
          ∙ is

  -- what is read leaves the heap as it was
  pub read_private : (name : NameId) (x : Thing) → held h id ≡ Some x → h ≡ acted_by h id (GetField name) x
  read_private name x e =
      sym is
      ∙ ap (λ (cs : List Cell). private_by thread shapes (home_by thread shapes cs) cs) (sym put_back)
      ∙ acted_private shapes o (GetField name) (read_acted shapes home o name object_is sound_is) x e

-- ---- a new object

module _ (thread : ℕ) (shapes : List Shape) (cells : List Cell) (h : Private) (is : private_by thread shapes (home_by thread shapes cells) cells ≡ h)
    (known : AreKnown shapes cells) (sound : AreSound shapes (home_by thread shapes cells) cells)
    (class : ℕ) (shapes' : List Shape) (o : Object) (has : Has shapes' o.shape (root_of class)) (gains : Gains shapes (root_of class) shapes')
    (bare : o.words.items ≡ []) where
  abbrev home_before : Home
  home_before = home_by thread shapes cells

  abbrev home_made : Home
  home_made = record { thread = thread; classes = home_before.classes ++ Some class ∷ [] }

  abbrev cells_made : List Cell
  cells_made = cells ++ cell.Object o ∷ []

  root_grown : Grows shapes shapes'
  root_grown = grows shapes shapes' (root_of class) gains

  one_more : Holds home_before home_made
  one_more = holds_more thread home_before.classes (Some class)

  new_object : IsObject shapes' o
  new_object = record {
    known = has.0;
    valid = subst (λ (s : Shape). IsPath s.path) (sym has.1) tt;
    long = ap length bare ∙ ap (λ (s : Shape). places_of s.path) (sym has.1);
  }

  new_sound : IsSound shapes' home_made o
  new_sound = subst (λ (s : Shape). AreWords home_made s.path (slot_at o)) (sym has.1) (λ name place e. absurd (cc))

  new_thing : thing_in shapes' home_made o ≡ thing.Object class []
  new_thing = ap (λ (s : Shape). thing.Object s.class (fields_of home_made s.path (slot_at o))) has.1

  made_shaped : map (shaped_in shapes') cells_made ≡ map (shaped_in shapes) cells ++ Some (root_of class) ∷ []
  made_shaped =
      map_push (shaped_in shapes') cells (cell.Object o)
      ∙ ap (λ ss. ss ++ Some (shape_in shapes' o) ∷ []) (shaped_keep shapes shapes' home_before home_made root_grown one_more cells known)
      ∙ ap (λ (s : Shape). map (shaped_in shapes) cells ++ Some s ∷ []) has.1

  made_home : home_by thread shapes' cells_made ≡ home_made
  made_home =
      ap (λ cs. record { thread = thread; classes = cs })
      (map_push (class_in shapes') cells (cell.Object o)
      ∙ ap (λ cs. cs ++ Some (shape_in shapes' o).class ∷ []) (class_keep shapes shapes' home_before home_made root_grown one_more cells known)
      ∙ ap (λ (s : Shape). map (class_in shapes) cells ++ Some s.class ∷ []) has.1)

  made_cells : AreKnown shapes' cells_made × AreSound shapes' (home_by thread shapes' cells_made) cells_made
  made_cells = (
    all_push (IsKnown shapes') cells (cell.Object o) (known_keep shapes shapes' home_before home_made root_grown one_more cells known) new_object,
    subst (λ (g : Home). AreSound shapes' g cells_made) (sym made_home)
        (all_push (IsCell shapes' home_made) cells (cell.Object o) (sound_all shapes shapes' home_before home_made root_grown one_more cells known sound) new_sound),
  )

  made_things : map (still shapes' home_made) cells_made ≡ map (still shapes home_before) cells ++ Some (thing.Object class []) ∷ []
  made_things =
      map_push (still shapes' home_made) cells (cell.Object o)
      ∙ ap (λ ts. ts ++ Some (thing_in shapes' home_made o) ∷ []) (things_keep shapes shapes' home_before home_made root_grown one_more cells known sound)
      ∙ ap (λ (t : Thing). map (still shapes home_before) cells ++ Some t ∷ []) new_thing

  made_private : private_by thread shapes' (home_by thread shapes' cells_made) cells_made ≡ entered h (thing.Object class [])
  made_private =
      let old : Private = private_by thread shapes home_before cells in
      let then : Private = entered old (thing.Object class []) in
      ap (λ (g : Home). private_by thread shapes' g cells_made) made_home
      ∙ ap (λ ts. parts thread ts (map (shaped_in shapes') cells_made) shapes') made_things
      ∙ ap (λ ss. parts thread then.things ss shapes') made_shaped
      ∙ ap (parts thread then.things then.shaped) (gains_is_with shapes shapes' (root_of class) gains)
      ∙ ap (λ (g : Private). entered g (thing.Object class [])) is

  pub made_private_by : (cells' : List Cell) → cells' ≡ cells_made → private_now thread shapes' cells' ≡ entered h (thing.Object class [])
  made_private_by cells' pushed = ap (private_now thread shapes') pushed ∙ made_private

  pub made_cells_by : (cells' : List Cell) → cells' ≡ cells_made → AreWhole thread shapes' cells'
  made_cells_by cells' pushed = subst (AreWhole thread shapes') (sym pushed) made_cells
