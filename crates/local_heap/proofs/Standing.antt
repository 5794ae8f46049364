-- A heap before and behind an act on a list, a hash or a mutex, and before and behind a new one.
use Rattle.std.proofs.Common.{◌≡◌, ℕ, zero, suc, ◌==◌, cond, Bool, true, false, List, [], ◌∷◌, ◌++◌, map, get_or, set, Option, Some, None, inl, refl, ap, sym, ◌∙◌, subst}
use Rattle.std.specs.Prelude.{slice_get, IsSome, Result, Ok, Err, IfOk, IsOkAnd, OnOk, OnErr}
use Rattle.std.specs.Option.{option_map}
use Rattle.std.proofs.lemmas.List.{map_push, map-set, set-get_or}
use Rattle.rb_model.specs.declared.act.Reply.{Reply as Answered}
use Rattle.rb_model.specs.declared.value.Id.{Id}
use Rattle.rb_model.specs.declared.fault.Fault.TheVariants.{NoMethod}
use Rattle.rb_model.specs.Acts.{Act, Reply, At, Done, GetField, KGet, Len, SetField}
use Rattle.rb_model.specs.Acts as reply
use Rattle.rb_model.specs.Doing.{said}
use Rattle.rb_model.specs.Things.{Thing, Field, becomes, becomes_by, field, gives, gives_to, mutex_gives, owner_behind}
use Rattle.rb_model.specs.Things as thing
use Rattle.rb_model.specs.Paths.{shape_behind, shape_made}
use Rattle.rb_model.specs.Private.{Becomes, Gives, Private, changed, entered, held, or_none, shape_held, with_shape_of}
use Rattle.rb_model.specs.Private as private
use Rattle.shape_core.specs.Shape.{Shape}
use Rattle.shape_core.proofs.Sames.{gains_is_with}
use Rattle.local_heap.specs.declared.cells.Cell.{Cell}
use Rattle.local_heap.specs.declared.cells.Cell.TheVariants as cell
use Rattle.local_heap.specs.declared.object.Object.{Object}
use Rattle.local_heap.specs.Contents.{Does, is_of_field, listed}
use Rattle.local_heap.specs.Limits.{IsWithin, IsWithinAt}
use Rattle.local_heap.specs.Memory.{MayWant, may_want}
use Rattle.local_heap.specs.Slots.{Home}
use Rattle.local_heap.specs.Cells.{AreSound, CellDoes, IsCell, IsContents, IsKnown, class_in, contents, fields_in, home_by, private_by, shape_in, shaped_in, still, thing_in}
use Rattle.local_heap.proofs.Acting.{AreWhole, private_now}
use Rattle.local_heap.proofs.Cellwise.{Grows, Holds, all_at, all_push, all_set, class_put, held_cell, holds_more, read_at, shaped_there, sound_all, stays_grown, things_keep}
use Rattle.local_heap.proofs.Limits.{stays_within}
use Rattle.local_heap.proofs.Objects.{always_err, always_ok, stands_in}

abbrev parts : ℕ → List (Option Thing) → List (Option Shape) → List Shape → Private
parts thread things shaped shapes = record { thread = thread; things = things; shaped = shaped; shapes = shapes }

some_thing : (found : Option Thing) → IsSome found → (x : Thing) × (found ≡ Some x)
some_thing None e = absurd (cc)
some_thing (Some x) e = (x, refl)

pub same_thing : (t u : Thing) → Some t ≡ Some u → t ≡ u
same_thing t u e = cc

-- ---- an act that is not of a field

no_method : (class : ℕ) (fields : List Field) (act : Act) → is_of_field act ≡ false → gives (thing.Object class fields) act ≡ reply.Failed NoMethod
no_method class fields act other = by act other
  where
    by : (a : Act) → is_of_field a ≡ false → gives (thing.Object class fields) a ≡ reply.Failed NoMethod
    by (GetField name) e = absurd (cc)
    by (SetField name v) e = absurd (cc)
    by a e = refl

no_change : (class : ℕ) (fields : List Field) (act : Act) → is_of_field act ≡ false → becomes (thing.Object class fields) act ≡ thing.Object class fields
no_change class fields act other = by act other
  where
    by : (a : Act) → is_of_field a ≡ false → becomes (thing.Object class fields) a ≡ thing.Object class fields
    by (SetField name v) e = absurd (cc)
    by a e = refl

pub shape_stays : (act : Act) → is_of_field act ≡ false → (shape : Option Shape) → option_map (shape_behind act) shape ≡ shape
shape_stays act other None = refl
shape_stays act other (Some shape) = by act other
  where
    by : (a : Act) → is_of_field a ≡ false → Some (shape_behind a shape) ≡ Some shape
    by (SetField name v) e = absurd (cc)
    by a e = refl

-- ---- whoever asks: what lists and hashes do, they do for each thread

-- What an act of thread n on a thing answered, and what the thing then is. Where memory was refused the thing is what it was.
abbrev DoesBy : {E : Type 0} → ℕ → Thing → Act → Result Answered E → Thing → Type 0
DoesBy n t act (Ok reply) now = (said reply ≡ gives_to n t act) × (now ≡ becomes_by n t act)
DoesBy n t act (Err refused) now = (now ≡ t) × (may_want t act ≡ true)

by_each : {E : Type 0} (n : ℕ) (t : Thing) (act : Act) (result : Result Answered E) (now : Thing) → gives t act ≡ gives_to n t act → becomes t act ≡ becomes_by n t act
    → Does t act result now → DoesBy n t act result now
by_each n t act (Ok reply) now gives_same becomes_same does = (does.0 ∙ gives_same, does.1 ∙ becomes_same)
by_each n t act (Err refused) now gives_same becomes_same does = does

mutex_by : {E : Type 0} (n : ℕ) (owner : Option ℕ) (act : Act) (result : Result Answered E) → IsOkAnd result (λ reply. said reply ≡ mutex_gives n act owner)
    → DoesBy n (thing.Mutex owner) act result (thing.Mutex (owner_behind n act owner))
mutex_by n owner act (Ok reply) does = (does, refl)
mutex_by n owner act (Err refused) does = absurd does

-- ---- what a cell has that is no object

module _ (shapes : List Shape) (home : Home) where
  pub contents_still : (c : Cell) (t : Thing) → contents c ≡ Some t → still shapes home c ≡ Some t
  contents_still (cell.Empty k) t e = absurd (cc)
  contents_still (cell.Object o) t e = absurd (cc)
  contents_still (cell.List list) t e = e
  contents_still (cell.Pairs pairs) t e = e
  contents_still (cell.Mutex owner) t e = e

  contents_shaped : (c : Cell) (t : Thing) → contents c ≡ Some t → shaped_in shapes c ≡ None
  contents_shaped (cell.Empty k) t e = absurd (cc)
  contents_shaped (cell.Object o) t e = absurd (cc)
  contents_shaped (cell.List list) t e = refl
  contents_shaped (cell.Pairs pairs) t e = refl
  contents_shaped (cell.Mutex owner) t e = refl

  contents_class : (c : Cell) (t : Thing) → contents c ≡ Some t → class_in shapes c ≡ None
  contents_class (cell.Empty k) t e = absurd (cc)
  contents_class (cell.Object o) t e = absurd (cc)
  contents_class (cell.List list) t e = refl
  contents_class (cell.Pairs pairs) t e = refl
  contents_class (cell.Mutex owner) t e = refl

  contents_known : (c : Cell) (t : Thing) → contents c ≡ Some t → IsKnown shapes c
  contents_known (cell.Empty k) t e = tt
  contents_known (cell.Object o) t e = absurd (cc)
  contents_known (cell.List list) t e = tt
  contents_known (cell.Pairs pairs) t e = tt
  contents_known (cell.Mutex owner) t e = tt

  contents_sound : (c : Cell) (t : Thing) → contents c ≡ Some t → IsWithin home.thread t → IsCell shapes home c
  contents_sound (cell.Empty k) t e fits = absurd (cc)
  contents_sound (cell.Object o) t e fits = absurd (cc)
  contents_sound (cell.List list) t e fits = subst (IsWithin home.thread) (sym (same_thing _ t e)) fits
  contents_sound (cell.Pairs pairs) t e fits = subst (IsWithin home.thread) (sym (same_thing _ t e)) fits
  contents_sound (cell.Mutex owner) t e fits = subst (IsWithin home.thread) (sym (same_thing _ t e)) fits

  -- a thing of a cell is no longer than it may be
  still_within : (c : Cell) (t : Thing) → still shapes home c ≡ Some t → IsCell shapes home c → IsWithin home.thread t
  still_within (cell.Empty k) t e is = absurd (cc)
  still_within (cell.Object o) t e is = subst (IsWithin home.thread) (same_thing _ t e) tt
  still_within (cell.List list) t e is = subst (IsWithin home.thread) (same_thing _ t e) is
  still_within (cell.Pairs pairs) t e is = subst (IsWithin home.thread) (same_thing _ t e) is
  still_within (cell.Mutex owner) t e is = subst (IsWithin home.thread) (same_thing _ t e) is

contents_made : (c : Cell) (t : Thing) → contents c ≡ Some t → shape_made t ≡ None
contents_made (cell.Empty k) t e = absurd (cc)
contents_made (cell.Object o) t e = absurd (cc)
contents_made (cell.List list) t e = ap shape_made (sym (same_thing _ t e))
contents_made (cell.Pairs pairs) t e = ap shape_made (sym (same_thing _ t e))
contents_made (cell.Mutex owner) t e = ap shape_made (sym (same_thing _ t e))

set_same : (xs : List (Option Thing)) (i : ℕ) (x : Thing) → or_none (slice_get xs i) ≡ Some x → set xs i (Some x) ≡ xs
set_same [] i x e = refl
set_same (y ∷ xs) zero x e = let same : y ≡ Some x = e in cc
set_same (y ∷ xs) (suc i) x e = ap (λ ys. y ∷ ys) (set_same xs i x e)

set_back : (xs : List (Option Shape)) (i : ℕ) → set xs i (or_none (slice_get xs i)) ≡ xs
set_back [] i = refl
set_back (y ∷ xs) zero = refl
set_back (y ∷ xs) (suc i) = ap (λ ys. y ∷ ys) (set_back xs i)

held_on : (b : Bool) (o : Option Thing) (x : Thing) → cond b o None ≡ Some x → o ≡ Some x
held_on true o x e = e
held_on false o x e = absurd (cc)

module _ (thread : ℕ) (shapes : List Shape) (cells : List Cell) (h : Private) (is : private_now thread shapes cells ≡ h) (whole : AreWhole thread shapes cells) where
  abbrev home : Home
  home = home_by thread shapes cells

  abbrev old : Private
  old = private_by thread shapes home cells

  own_thread : thread ≡ h.thread
  own_thread = ap (λ (g : Private). g.thread) is

  -- no thing is longer than it may be, nor owned by another thread
  pub within_at : (id : Id) → IsWithinAt h id
  within_at id = subst (λ (g : Private). IsWithinAt g id) is
      (λ x e.
      let found = held_cell thread shapes home cells id x e in
      still_within shapes home found.0 x found.2 (all_at (IsCell shapes home) cells id.serial found.0 whole.1 found.1))

  -- what only reads leaves the heap as it was
  module _ (id : Id) where
    shapes_stay : (x : Thing) → held old id ≡ Some x → with_shape_of shapes (shape_held old id) ≡ shapes
    shapes_stay x e =
        let found = held_cell thread shapes home cells id x e in
        ap (with_shape_of shapes) (shaped_there shapes cells id.serial found.0 found.1)
        ∙ by found.0 (all_at (IsKnown shapes) cells id.serial found.0 whole.0 found.1)
      where
        by : (c : Cell) → IsKnown shapes c → with_shape_of shapes (shaped_in shapes c) ≡ shapes
        by (cell.Empty k) known = refl
        by (cell.Object o) known = sym (gains_is_with shapes shapes (shape_in shapes o) (inl (stands_in shapes o.shape known.known, refl)))
        by (cell.List list) known = refl
        by (cell.Pairs pairs) known = refl
        by (cell.Mutex owner) known = refl

    put_back : (x : Thing) → held old id ≡ Some x → changed old id x (shape_held old id) ≡ old
    put_back x e =
        ap (λ ts. parts thread ts (set old.shaped id.serial (shape_held old id)) (with_shape_of shapes (shape_held old id))) (set_same old.things id.serial x (held_on (id.thread == thread) _ x e))
        ∙ ap (λ ss. parts thread old.things ss (with_shape_of shapes (shape_held old id))) (set_back old.shaped id.serial)
        ∙ ap (parts thread old.things old.shaped) (shapes_stay x e)

    pub idle : (act : Act) (x : Thing) → held h id ≡ Some x → becomes_by h.thread x act ≡ x → option_map (shape_behind act) (shape_held h id) ≡ shape_held h id → h ≡ private.acted h id act x
    idle act x e same shape =
        sym (subst (λ (g : Private). changed g id x (shape_held g id) ≡ g) is (put_back x (ap (λ (g : Private). held g id) is ∙ e)))
        ∙ ap (λ (t : Thing). changed h id t (shape_held h id)) (sym same)
        ∙ ap (changed h id (becomes_by h.thread x act)) (sym shape)

  -- ---- an act on a thing that stands by itself

  module _ (id : Id) (held_here : IsSome (held h id)) (c : Cell) (read : c ≡ get_or cells id.serial c) where
    seen_held : held old id ≡ held h id
    seen_held = ap (λ (g : Private). held g id) is

    there : slice_get cells id.serial ≡ Some c
    there =
        let x = some_thing (held h id) held_here in
        let found = held_cell thread shapes home cells id x.0 (seen_held ∙ x.1) in
        let same : c ≡ found.0 = read_at cells id.serial c found.0 found.1 read in
        found.1 ∙ ap Some (sym same)

    still_here : (x : Thing) → held h id ≡ Some x → still shapes home c ≡ Some x
    still_here x e =
        let found = held_cell thread shapes home cells id x (seen_held ∙ e) in
        let same : c ≡ found.0 = read_at cells id.serial c found.0 found.1 read in
        ap (still shapes home) same ∙ found.2

    -- nothing is held where nothing stands
    pub not_empty : (k : Option ℕ) → c ≡ cell.Empty k → ⊥
    not_empty k at =
        let x = some_thing (held h id) held_here in
        let e : still shapes home (cell.Empty k) ≡ Some x.0 = ap (still shapes home) (sym at) ∙ still_here x.0 x.1 in
        absurd (cc)

    -- a cell that was looked at is put back
    cells_back : set cells id.serial c ≡ cells
    cells_back = ap (set cells id.serial) read ∙ set-get_or cells id.serial c

    pub kept_whole : AreWhole thread shapes (set cells id.serial c)
    kept_whole = subst (AreWhole thread shapes) (sym cells_back) whole

    pub kept_private : private_now thread shapes (set cells id.serial c) ≡ h
    kept_private = ap (private_now thread shapes) cells_back ∙ is

    -- a thing that is held is that of its cell
    pub is_thing : (t : Thing) → contents c ≡ Some t → (x : Thing) → held h id ≡ Some x → t ≡ x
    is_thing t at x e = same_thing t x (sym (contents_still shapes home c t at) ∙ still_here x e)

    pub is_held : (t : Thing) → contents c ≡ Some t → held h id ≡ Some t
    is_held t at =
        let x = some_thing (held h id) held_here in
        x.1 ∙ ap Some (sym (is_thing t at x.0 x.1))

    pub no_shape : (t : Thing) → contents c ≡ Some t → shape_held h id ≡ None
    no_shape t at =
        ap (λ (g : Private). shape_held g id) (sym is) ∙ shaped_there shapes cells id.serial c there ∙ contents_shaped shapes home c t at

    pub is_within : (t : Thing) → contents c ≡ Some t → IsWithin h.thread t
    is_within t at = within_at id t (is_held t at)

    -- what changes nothing
    pub unchanged : (t : Thing) → contents c ≡ Some t → (act : Act) → becomes_by h.thread t act ≡ t → Becomes h id act h
    unchanged t at act same x e =
        let here = is_thing t at x e in
        idle id act x e (ap (λ (u : Thing). becomes_by h.thread u act) (sym here) ∙ same ∙ here)
        (ap (option_map (shape_behind act)) (no_shape t at) ∙ sym (no_shape t at))

    -- the cells with another content
    module _ (c' : Cell) (t t' : Thing) (was : contents c ≡ Some t) (now : contents c' ≡ Some t') where
      abbrev cells_then : List Cell
      cells_then = set cells id.serial c'

      abbrev home_then : Home
      home_then = home_by thread shapes cells_then

      shaped_none : map (shaped_in shapes) cells_then ≡ set (map (shaped_in shapes) cells) id.serial None
      shaped_none =
          map-set (shaped_in shapes) cells id.serial c'
          ∙ ap (set (map (shaped_in shapes) cells) id.serial) (contents_shaped shapes home c' t' now)

      same_home : home_then ≡ home
      same_home =
          ap (λ cs. record { thread = thread; classes = cs })
          (map-set (class_in shapes) cells id.serial c'
          ∙ class_put shapes cells id.serial c _ there (contents_class shapes home c' t' now ∙ sym (contents_class shapes home c t was)))

      things_then : map (still shapes home) cells_then ≡ set (map (still shapes home) cells) id.serial (Some t')
      things_then =
          map-set (still shapes home) cells id.serial c'
          ∙ ap (set (map (still shapes home) cells) id.serial) (contents_still shapes home c' t' now)

      pub contents_cells : IsWithin h.thread t' → AreWhole thread shapes cells_then
      contents_cells fits = (
        all_set (IsKnown shapes) cells id.serial c' whole.0 (contents_known shapes home c' t' now),
        subst (λ (g : Home). AreSound shapes g cells_then) (sym same_home) (all_set (IsCell shapes home) cells id.serial c' whole.1 (contents_sound shapes home c' t' now (subst (λ n. IsWithin n t') (sym own_thread) fits))),
      )

      changed_then : private_now thread shapes cells_then ≡ changed h id t' None
      changed_then =
          ap (λ (g : Home). private_by thread shapes g cells_then) same_home
          ∙ ap (λ ts. parts thread ts (map (shaped_in shapes) cells_then) shapes) things_then
          ∙ ap (λ ss. parts thread (set old.things id.serial (Some t')) ss shapes) shaped_none
          ∙ ap (λ (g : Private). changed g id t' None) is

      pub contents_acted : (act : Act) → t' ≡ becomes_by h.thread t act → Becomes h id act (private_now thread shapes cells_then)
      contents_acted act becomes_is x e =
          changed_then
          ∙ ap (λ (u : Thing). changed h id u None) (becomes_is ∙ ap (λ (u : Thing). becomes_by h.thread u act) (is_thing t was x e))
          ∙ ap (changed h id (becomes_by h.thread x act)) (ap (option_map (shape_behind act)) (sym (no_shape t was)))

      pub contents_left : t' ≡ t → private_now thread shapes cells_then ≡ h
      contents_left same =
          changed_then
          ∙ ap (λ (u : Thing). changed h id u None) same
          ∙ ap (changed h id t) (sym (no_shape t was))
          ∙ subst (λ (g : Private). changed g id t (shape_held g id) ≡ g) is (put_back id t (seen_held ∙ is_held t was))

      -- ---- an act, as the thing does it for this thread

      module _ {E : Type 0} (act : Act) (result : Result Answered E) (does : DoesBy h.thread t act result t') where
        becomes_or_stays : IsWithin h.thread t'
        becomes_or_stays = by result does
          where
            by : (r : Result Answered E) → DoesBy h.thread t act r t' → IsWithin h.thread t'
            by (Ok reply) d = subst (IsWithin h.thread) (sym d.1) (stays_within h.thread t act (is_within t was))
            by (Err e) d = subst (IsWithin h.thread) (sym d.0) (is_within t was)

        pub done_cells : AreWhole thread shapes cells_then
        done_cells = contents_cells becomes_or_stays

        pub done_reply : IfOk result (λ reply. Gives h id act (said reply))
        done_reply = by result does
          where
            by : (r : Result Answered E) → DoesBy h.thread t act r t' → IfOk r (λ reply. Gives h id act (said reply))
            by (Ok reply) d = λ x e. d.0 ∙ ap (λ (u : Thing). gives_to h.thread u act) (is_thing t was x e)
            by (Err e) d = tt

        pub done_private : OnOk result (Becomes h id act (private_now thread shapes cells_then))
        done_private = by result does
          where
            by : (r : Result Answered E) → DoesBy h.thread t act r t' → OnOk r (Becomes h id act (private_now thread shapes cells_then))
            by (Ok reply) d = contents_acted act d.1
            by (Err e) d = tt

        pub done_err : OnErr result (private_now thread shapes cells_then ≡ h)
        done_err = by result does
          where
            by : (r : Result Answered E) → DoesBy h.thread t act r t' → OnErr r (private_now thread shapes cells_then ≡ h)
            by (Ok reply) d = tt
            by (Err e) d = contents_left d.0

        pub done_refused : OnErr result (MayWant h id act)
        done_refused = by result does
          where
            by : (r : Result Answered E) → DoesBy h.thread t act r t' → OnErr r (MayWant h id act)
            by (Ok reply) d = tt
            by (Err e) d = λ x here. ap (λ (u : Thing). may_want u act) (sym (is_thing t was x here)) ∙ d.1

  -- ---- an act that is not of a field

  module _ {E : Type 0} (id : Id) (held_here : IsSome (held h id)) (c : Cell) (read : c ≡ get_or cells id.serial c) (c' : Cell)
      (act : Act) (other : is_of_field act ≡ false) (result : Result Answered E) (of_thread : CellDoes thread c act result c') where
    does : CellDoes h.thread c act result c'
    does = subst (λ n. CellDoes n c act result c') own_thread of_thread

    abbrev cells_now : List Cell
    cells_now = set cells id.serial c'

    abbrev now : Private
    now = private_now thread shapes cells_now

    cells_stay : c' ≡ c → cells_now ≡ cells
    cells_stay e = ap (set cells id.serial) e ∙ cells_back id held_here c read

    stays : c' ≡ c → now ≡ h
    stays e = ap (private_now thread shapes) (cells_stay e) ∙ is

    -- an object has no other method
    object_gives : (o : Object) → c ≡ cell.Object o → (x : Thing) → held h id ≡ Some x → gives_to h.thread x act ≡ reply.Failed NoMethod
    object_gives o at x e =
        subst (λ (t : Thing). gives_to h.thread t act ≡ reply.Failed NoMethod) (same_thing (thing_in shapes home o) x (ap (still shapes home) (sym at) ∙ still_here id held_here c read x e))
        (no_method (shape_in shapes o).class (fields_in shapes home o) act other)

    object_becomes : (o : Object) → c ≡ cell.Object o → (x : Thing) → held h id ≡ Some x → becomes_by h.thread x act ≡ x
    object_becomes o at x e =
        subst (λ (t : Thing). becomes_by h.thread t act ≡ t) (same_thing (thing_in shapes home o) x (ap (still shapes home) (sym at) ∙ still_here id held_here c read x e))
        (no_change (shape_in shapes o).class (fields_in shapes home o) act other)

    pub cell_whole : AreWhole thread shapes cells_now
    cell_whole = by c refl does
      where
        by : (d : Cell) → c ≡ d → CellDoes h.thread d act result c' → AreWhole thread shapes cells_now
        by (cell.Empty k) at d = absurd (not_empty id held_here c read k at)
        by (cell.Object o) at d = subst (AreWhole thread shapes) (sym (cells_stay (d.0 ∙ sym at))) whole
        by (cell.List list) at d = done_cells id held_here c read c' (listed list) d.0 (ap contents at) d.1 act result (by_each h.thread (listed list) act result d.0 refl refl d.2)
        by (cell.Pairs pairs) at d = done_cells id held_here c read c' (thing.Pairs pairs) d.0 (ap contents at) d.1 act result (by_each h.thread (thing.Pairs pairs) act result d.0 refl refl d.2)
        by (cell.Mutex owner) at d =
            done_cells id held_here c read c' (thing.Mutex owner) (thing.Mutex (owner_behind h.thread act owner)) (ap contents at) (ap contents d.0) act result (mutex_by h.thread owner act result d.1)

    pub cell_reply : IfOk result (λ reply. Gives h id act (said reply))
    cell_reply = by c refl does
      where
        refuses : (o : Object) → c ≡ cell.Object o → (r : Result Answered E) → IsOkAnd r (λ answer. said answer ≡ reply.Failed NoMethod) → IfOk r (λ answer. Gives h id act (said answer))
        refuses o at (Ok answer) e = λ x held_x. e ∙ sym (object_gives o at x held_x)
        refuses o at (Err e') e = tt

        by : (d : Cell) → c ≡ d → CellDoes h.thread d act result c' → IfOk result (λ answer. Gives h id act (said answer))
        by (cell.Empty k) at d = absurd (not_empty id held_here c read k at)
        by (cell.Object o) at d = refuses o at result d.1
        by (cell.List list) at d = done_reply id held_here c read c' (listed list) d.0 (ap contents at) d.1 act result (by_each h.thread (listed list) act result d.0 refl refl d.2)
        by (cell.Pairs pairs) at d = done_reply id held_here c read c' (thing.Pairs pairs) d.0 (ap contents at) d.1 act result (by_each h.thread (thing.Pairs pairs) act result d.0 refl refl d.2)
        by (cell.Mutex owner) at d =
            done_reply id held_here c read c' (thing.Mutex owner) (thing.Mutex (owner_behind h.thread act owner)) (ap contents at) (ap contents d.0) act result (mutex_by h.thread owner act result d.1)

    pub cell_private : OnOk result (Becomes h id act now)
    cell_private = by c refl does
      where
        by : (d : Cell) → c ≡ d → CellDoes h.thread d act result c' → OnOk result (Becomes h id act now)
        by (cell.Empty k) at d = absurd (not_empty id held_here c read k at)
        by (cell.Object o) at d =
            always_ok result
            (λ x e. stays (d.0 ∙ sym at) ∙ idle id act x e (object_becomes o at x e) (shape_stays act other (shape_held h id)))
        by (cell.List list) at d = done_private id held_here c read c' (listed list) d.0 (ap contents at) d.1 act result (by_each h.thread (listed list) act result d.0 refl refl d.2)
        by (cell.Pairs pairs) at d = done_private id held_here c read c' (thing.Pairs pairs) d.0 (ap contents at) d.1 act result (by_each h.thread (thing.Pairs pairs) act result d.0 refl refl d.2)
        by (cell.Mutex owner) at d =
            done_private id held_here c read c' (thing.Mutex owner) (thing.Mutex (owner_behind h.thread act owner)) (ap contents at) (ap contents d.0) act result (mutex_by h.thread owner act result d.1)

    pub cell_err : OnErr result (now ≡ h)
    cell_err = by c refl does
      where
        by : (d : Cell) → c ≡ d → CellDoes h.thread d act result c' → OnErr result (now ≡ h)
        by (cell.Empty k) at d = absurd (not_empty id held_here c read k at)
        by (cell.Object o) at d = always_err result (stays (d.0 ∙ sym at))
        by (cell.List list) at d = done_err id held_here c read c' (listed list) d.0 (ap contents at) d.1 act result (by_each h.thread (listed list) act result d.0 refl refl d.2)
        by (cell.Pairs pairs) at d = done_err id held_here c read c' (thing.Pairs pairs) d.0 (ap contents at) d.1 act result (by_each h.thread (thing.Pairs pairs) act result d.0 refl refl d.2)
        by (cell.Mutex owner) at d =
            done_err id held_here c read c' (thing.Mutex owner) (thing.Mutex (owner_behind h.thread act owner)) (ap contents at) (ap contents d.0) act result (mutex_by h.thread owner act result d.1)

    pub cell_refused : OnErr result (MayWant h id act)
    cell_refused = by c refl does
      where
        refuses : (r : Result Answered E) → IsOkAnd r (λ answer. said answer ≡ reply.Failed NoMethod) → OnErr r (MayWant h id act)
        refuses (Ok answer) e = tt
        refuses (Err e') e = absurd e

        by : (d : Cell) → c ≡ d → CellDoes h.thread d act result c' → OnErr result (MayWant h id act)
        by (cell.Empty k) at d = absurd (not_empty id held_here c read k at)
        by (cell.Object o) at d = refuses result d.1
        by (cell.List list) at d = done_refused id held_here c read c' (listed list) d.0 (ap contents at) d.1 act result (by_each h.thread (listed list) act result d.0 refl refl d.2)
        by (cell.Pairs pairs) at d = done_refused id held_here c read c' (thing.Pairs pairs) d.0 (ap contents at) d.1 act result (by_each h.thread (thing.Pairs pairs) act result d.0 refl refl d.2)
        by (cell.Mutex owner) at d =
            done_refused id held_here c read c' (thing.Mutex owner) (thing.Mutex (owner_behind h.thread act owner)) (ap contents at) (ap contents d.0) act result (mutex_by h.thread owner act result d.1)

  -- ---- a new thing that stands by itself

  module _ (c : Cell) (t : Thing) (at : contents c ≡ Some t) (fits : IsWithin h.thread t) where
    abbrev cells_more : List Cell
    cells_more = cells ++ c ∷ []

    abbrev home_more : Home
    home_more = record { thread = thread; classes = home.classes ++ None ∷ [] }

    more : Holds home home_more
    more = holds_more thread home.classes None

    grown : Grows shapes shapes
    grown = stays_grown shapes shapes refl

    shaped_more : map (shaped_in shapes) cells_more ≡ map (shaped_in shapes) cells ++ None ∷ []
    shaped_more = map_push (shaped_in shapes) cells c ∙ ap (λ s. map (shaped_in shapes) cells ++ s ∷ []) (contents_shaped shapes home c t at)

    home_is : home_by thread shapes cells_more ≡ home_more
    home_is =
        ap (λ cs. record { thread = thread; classes = cs })
        (map_push (class_in shapes) cells c ∙ ap (λ x. map (class_in shapes) cells ++ x ∷ []) (contents_class shapes home c t at))

    things_more : map (still shapes home_more) cells_more ≡ map (still shapes home) cells ++ Some t ∷ []
    things_more =
        map_push (still shapes home_more) cells c
        ∙ ap (λ ts. ts ++ still shapes home_more c ∷ []) (things_keep shapes shapes home home_more grown more cells whole.0 whole.1)
        ∙ ap (λ u. map (still shapes home) cells ++ u ∷ []) (contents_still shapes home_more c t at)

    pub entered_whole : AreWhole thread shapes cells_more
    entered_whole = (
      all_push (IsKnown shapes) cells c whole.0 (contents_known shapes home c t at),
      subst (λ (g : Home). AreSound shapes g cells_more) (sym home_is)
          (all_push (IsCell shapes home_more) cells c (sound_all shapes shapes home home_more grown more cells whole.0 whole.1) (contents_sound shapes home_more c t at (subst (λ n. IsWithin n t) (sym own_thread) fits))),
    )

    pub entered_private : private_now thread shapes cells_more ≡ entered h t
    entered_private =
        ap (λ (g : Home). private_by thread shapes g cells_more) home_is
        ∙ ap (λ ts. parts thread ts (map (shaped_in shapes) cells_more) shapes) things_more
        ∙ ap (λ ss. parts thread (old.things ++ Some t ∷ []) ss shapes) shaped_more
        ∙ ap (λ s. parts thread (old.things ++ Some t ∷ []) (old.shaped ++ s ∷ []) (with_shape_of shapes s)) (sym (contents_made c t at))
        ∙ ap (λ (g : Private). entered g t) is

  pub enters_whole : (c : Cell) → IsContents h.thread c → AreWhole thread shapes (cells ++ c ∷ [])
  enters_whole (cell.Empty k) e = absurd e
  enters_whole (cell.Object o) e = absurd e
  enters_whole (cell.List list) e = entered_whole (cell.List list) (listed list) refl e
  enters_whole (cell.Pairs pairs) e = entered_whole (cell.Pairs pairs) (thing.Pairs pairs) refl e
  enters_whole (cell.Mutex owner) e = entered_whole (cell.Mutex owner) (thing.Mutex owner) refl e

  pub enters_private : (c : Cell) → IsContents h.thread c → option_map (entered h) (contents c) ≡ Some (private_now thread shapes (cells ++ c ∷ []))
  enters_private (cell.Empty k) e = absurd e
  enters_private (cell.Object o) e = absurd e
  enters_private (cell.List list) e = ap Some (sym (entered_private (cell.List list) (listed list) refl e))
  enters_private (cell.Pairs pairs) e = ap Some (sym (entered_private (cell.Pairs pairs) (thing.Pairs pairs) refl e))
  enters_private (cell.Mutex owner) e = ap Some (sym (entered_private (cell.Mutex owner) (thing.Mutex owner) refl e))
