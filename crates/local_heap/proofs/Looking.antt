-- What is looked up in a heap by an id alone, and a list that gains, changes or loses an element.
use Rattle.std.proofs.Common.{◌≡◌, ℕ, zero, suc, ◌==◌, cond, Bool, true, false, List, [], ◌∷◌, map, get_or, set, Option, Some, None, refl, ap, sym, ◌∙◌, subst, arith}
use Rattle.std.specs.Prelude.{◌<◌, ◌≤◌, length, is_some, slice_get, option_and_then, ℤ, pos, IsSome, IfSome, IsSomeAnd, Result, Ok, Err, IfOk}
use Rattle.std.specs.Option.{option_map}
use Rattle.std.proofs.lemmas.Bool.Decides.{nat_tests}
use Rattle.std.proofs.lemmas.List.{set-get_or}
use Rattle.std.proofs.lemmas.Option.{slice_get_past, slice_get_read}
use Rattle.rb_tree.specs.declared.span.NameId.{NameId}
use Rattle.rb_model.specs.declared.immediate.Immediate.{Immediate}
use Rattle.rb_model.specs.declared.immediate.Immediate.TheVariants as immediate
use Rattle.rb_model.specs.declared.value.Id.{Id}
use Rattle.rb_model.specs.declared.value.Value.{Value as Held}
use Rattle.rb_model.specs.Values.{Value as Val, Int, plain}
use Rattle.rb_model.specs.Acts.{Act, Reply, At, Done, GetField, KGet, Len, SetField}
use Rattle.rb_model.specs.Acts as reply
use Rattle.rb_model.specs.Things.{Thing, Field, becomes, becomes_by, field, gives, gives_to, mutex_gives, owner_behind}
use Rattle.rb_model.specs.Things as thing
use Rattle.rb_model.specs.Paths.{shape_behind}
use Rattle.rb_model.specs.declared.act.Side.{Side}
use Rattle.rb_model.specs.declared.act.Side.TheVariants as sides
use Rattle.rb_model.specs.Immediates.{list_answered, taking, told, told_answer}
use Rattle.rb_model.specs.Private.{Becomes, Gives, Private, held, or_none, shape_held}
use Rattle.shape_core.specs.Shape.{Shape}
use Rattle.array_strategy.specs.Elements.{Elements as Stored}
use Rattle.local_heap.specs.declared.cells.Cell.{Cell}
use Rattle.local_heap.specs.declared.cells.Cell.TheVariants as cell
use Rattle.local_heap.specs.declared.object.Object.{Object}
use Rattle.local_heap.specs.Contents.{DoesWrite, has_length, is_list, listed}
use Rattle.local_heap.specs.Limits.{IsWithin}
use Rattle.local_heap.specs.Memory.{MayWant, NotAtOnce, at_once, may_want}
use Rattle.local_heap.specs.Slots.{Home}
use Rattle.local_heap.specs.Cells.{CellRefuses, CellTakes, CellWrites, cell_at, contents, fields_in, home_by, still, thing_in}
use Rattle.local_heap.proofs.Acting.{AreWhole, private_now}
use Rattle.local_heap.proofs.Limits.{stays_within}
use Rattle.local_heap.proofs.Standing.{contents_acted, contents_cells, contents_left, contents_still, idle, is_thing, is_within, same_thing, shape_stays}

-- what lists and hashes give, they give each thread
element_given : (c : Cell) (n : ℕ) (i : ℤ) (r : Reply) → IsSomeAnd (contents c) (λ t. r ≡ gives t (At i)) → IsSomeAnd (contents c) (λ t. r ≡ gives_to n t (At i))
element_given (cell.Empty k) n i r e = e
element_given (cell.Object o) n i r e = e
element_given (cell.List list) n i r e = e
element_given (cell.Pairs pairs) n i r e = e
element_given (cell.Mutex owner) n i r e = e

count_given : (c : Cell) (n : ℕ) (r : Reply) → IsSomeAnd (contents c) (λ t. r ≡ gives t Len) → IsSomeAnd (contents c) (λ t. r ≡ gives_to n t Len)
count_given (cell.Empty k) n r e = e
count_given (cell.Object o) n r e = e
count_given (cell.List list) n r e = e
count_given (cell.Pairs pairs) n r e = e
count_given (cell.Mutex owner) n r e = e

map_there : (f : Cell → Option Thing) (cells : List Cell) (i : ℕ) → or_none (slice_get (map f cells) i) ≡ option_and_then f (slice_get cells i)
map_there f [] i = refl
map_there f (c ∷ cells) zero = refl
map_there f (c ∷ cells) (suc i) = map_there f cells i

module _ (thread : ℕ) (shapes : List Shape) (cells : List Cell) (h : Private) (is : private_now thread shapes cells ≡ h) (whole : AreWhole thread shapes cells) where
  abbrev home : Home
  home = home_by thread shapes cells

  -- ---- what is looked up by an id alone

  module _ (id : Id) (found : Option Cell) (is_found : found ≡ cell_at thread cells id) where
    -- what is held there is what the cell has
    pub held_there : held h id ≡ option_and_then (still shapes home) found
    held_there =
        ap (λ (g : Private). held g id) (sym is)
        ∙ by (id.thread == thread) (slice_get cells id.serial) (map_there (still shapes home) cells id.serial)
        ∙ ap (option_and_then (still shapes home)) (sym is_found)
      where
        by : (b : Bool) (o : Option Cell) → or_none (slice_get (map (still shapes home) cells) id.serial) ≡ option_and_then (still shapes home) o
            → cond b (or_none (slice_get (map (still shapes home) cells) id.serial)) None ≡ option_and_then (still shapes home) (cond b o None)
        by true o e = e
        by false o e = refl

    pub list_there : (c : Cell) → found ≡ Some c → is_list (contents c) ≡ is_list (held h id)
    list_there c at = by c ∙ ap is_list (sym (held_there ∙ ap (option_and_then (still shapes home)) at))
      where
        by : (d : Cell) → is_list (contents d) ≡ is_list (still shapes home d)
        by (cell.Empty k) = refl
        by (cell.Object o) = refl
        by (cell.List list) = refl
        by (cell.Pairs pairs) = refl
        by (cell.Mutex owner) = refl

    pub length_there : (c : Cell) → found ≡ Some c → has_length (contents c) ≡ has_length (held h id)
    length_there c at = by c ∙ ap has_length (sym (held_there ∙ ap (option_and_then (still shapes home)) at))
      where
        by : (d : Cell) → has_length (contents d) ≡ has_length (still shapes home d)
        by (cell.Empty k) = refl
        by (cell.Object o) = refl
        by (cell.List list) = refl
        by (cell.Pairs pairs) = refl
        by (cell.Mutex owner) = refl

    pub told_there : (i : ℤ) (c : Cell) → found ≡ Some c → told_answer (contents c) (At i) ≡ told_answer (held h id) (At i)
    told_there i c at = by c ∙ ap (λ o. told_answer o (At i)) (sym (held_there ∙ ap (option_and_then (still shapes home)) at))
      where
        by : (d : Cell) → told_answer (contents d) (At i) ≡ told_answer (still shapes home d) (At i)
        by (cell.Empty k) = refl
        by (cell.Object o) = refl
        by (cell.List list) = refl
        by (cell.Pairs pairs) = refl
        by (cell.Mutex owner) = refl

    pub list_told_there : (i : ℤ) (c : Cell) → found ≡ Some c → list_answered (contents c) (At i) ≡ list_answered (held h id) (At i)
    list_told_there i c at = by c ∙ ap (λ o. list_answered o (At i)) (sym (held_there ∙ ap (option_and_then (still shapes home)) at))
      where
        by : (d : Cell) → list_answered (contents d) (At i) ≡ list_answered (still shapes home d) (At i)
        by (cell.Empty k) = refl
        by (cell.Object o) = refl
        by (cell.List list) = refl
        by (cell.Pairs pairs) = refl
        by (cell.Mutex owner) = refl

    pub value_told_there : (key : Val) (c : Cell) → found ≡ Some c → told_answer (contents c) (KGet key) ≡ told_answer (held h id) (KGet key)
    value_told_there key c at = by c ∙ ap (λ o. told_answer o (KGet key)) (sym (held_there ∙ ap (option_and_then (still shapes home)) at))
      where
        by : (d : Cell) → told_answer (contents d) (KGet key) ≡ told_answer (still shapes home d) (KGet key)
        by (cell.Empty k) = refl
        by (cell.Object o) = refl
        by (cell.List list) = refl
        by (cell.Pairs pairs) = refl
        by (cell.Mutex owner) = refl

    pub none_there : found ≡ None → held h id ≡ None
    none_there at = held_there ∙ ap (option_and_then (still shapes home)) at

    -- what is told of a field of an object is told of the thing that is held
    pub field_told_there : (name : NameId) (o : Object) → found ≡ Some (cell.Object o) → (it : Immediate)
        → it ≡ told (field name (fields_in shapes home o)) → it ≡ told_answer (held h id) (GetField name)
    field_told_there name o at it is_told =
        is_told ∙ ap (λ t. told_answer t (GetField name)) (sym (held_there ∙ ap (option_and_then (still shapes home)) at))

    -- nothing is told of a field of what is no object
    pub no_field_told_there : (name : NameId) (c : Cell) → found ≡ Some c → ((o : Object) → c ≡ cell.Object o → ⊥)
        → immediate.Other ≡ told_answer (held h id) (GetField name)
    no_field_told_there name c at other =
        by c other ∙ ap (λ t. told_answer t (GetField name)) (sym (held_there ∙ ap (option_and_then (still shapes home)) at))
      where
        by : (d : Cell) → ((o : Object) → d ≡ cell.Object o → ⊥) → immediate.Other ≡ told_answer (still shapes home d) (GetField name)
        by (cell.Empty k) e = refl
        by (cell.Object o) e = absurd (e o refl)
        by (cell.List list) e = refl
        by (cell.Pairs pairs) e = refl
        by (cell.Mutex owner) e = refl

    -- what is so of what the cell has, is so of the thing that is held
    pub so_there : (P : Thing → Type 0) (c : Cell) → found ≡ Some c → IsSomeAnd (contents c) P → (x : Thing) → held h id ≡ Some x → P x
    so_there P c at so x e = by (contents c) refl so
      where
        by : (o : Option Thing) → contents c ≡ o → IsSomeAnd o P → P x
        by None is_none s = absurd s
        by (Some t) is_some s =
            subst P (same_thing t x (sym (contents_still shapes home c t is_some) ∙ sym (held_there ∙ ap (option_and_then (still shapes home)) at) ∙ e)) s

    pub gives_there : {E : Type 0} (i : ℤ) (c : Cell) → found ≡ Some c → (r : Result (Option Held) E)
        → IfOk r (λ o. IfSome o (λ v. IsSomeAnd (contents c) (λ t. reply.Value (plain v) ≡ gives t (At i)))) → IfOk r (λ o. IfSome o (λ v. Gives h id (At i) (reply.Value (plain v))))
    gives_there i c at (Ok (Some v)) e = λ x held_x. so_there (λ t. reply.Value (plain v) ≡ gives_to h.thread t (At i)) c at (element_given c h.thread i (reply.Value (plain v)) e) x held_x
    gives_there i c at (Ok None) e = tt
    gives_there i c at (Err refused) e = tt

    pub counts_there : (c : Cell) → found ≡ Some c → (r : Option ℕ)
        → IfSome r (λ n. IsSomeAnd (contents c) (λ t. reply.Value (Int (pos n)) ≡ gives t Len)) → IfSome r (λ n. Gives h id Len (reply.Value (Int (pos n))))
    counts_there c at (Some n) e = λ x held_x. so_there (λ t. reply.Value (Int (pos n)) ≡ gives_to h.thread t Len) c at (count_given c h.thread (reply.Value (Int (pos n))) e) x held_x
    counts_there c at None e = tt

    pub wants_there : (act : Act) (c : Cell) → found ≡ Some c → IsSomeAnd (contents c) (λ t. may_want t act ≡ true) → MayWant h id act
    wants_there act c at e = λ x held_x. so_there (λ t. may_want t act ≡ true) c at e x held_x

  -- ---- a list that gains, changes or loses an element

  -- the cell of a serial number that is there is that of its id
  pub cell_there : (id : Id) (c : Cell) → id.thread ≡ thread → id.serial < length cells → c ≡ get_or cells id.serial c → Some c ≡ cell_at thread cells id
  cell_there id c same within read =
      let own : (id.thread == thread) ≡ true = grind (arith, nat_tests) in
      rw own (sym (slice_get_read cells (length cells) id.serial c refl within read))

  -- nothing is held by an id of another thread, or by a serial number that is not there
  pub elsewhere : (id : Id) → (id.thread ≡ thread → ⊥) → held h id ≡ None
  elsewhere id other =
      let not_own : (id.thread == thread) ≡ false = grind (arith, nat_tests) in
      none_there id None (rw not_own refl) refl

  pub beyond : (id : Id) → length cells ≤ id.serial → held h id ≡ None
  beyond id past = none_there id None (by (id.thread == thread)) refl
    where
      by : (b : Bool) → None ≡ cond b (slice_get cells id.serial) None
      by true = sym (slice_get_past cells id.serial past)
      by false = refl

  -- what is not held need not be done
  pub not_held : (id : Id) (act : Act) → held h id ≡ None → NotAtOnce h id act
  not_held id act none x e = absurd (let wrong : None ≡ Some x = sym none ∙ e in cc)

  module _ (id : Id) (c : Cell) (is_found : Some c ≡ cell_at thread cells id) (read : c ≡ get_or cells id.serial c) where
    -- what the cell may refuse may be refused
    pub refused_there : (act : Act) → CellRefuses c act → NotAtOnce h id act
    refused_there act refuses x e = by c refuses (sym (held_there id (Some c) is_found) ∙ e)
      where
        by : (d : Cell) → CellRefuses d act → still shapes home d ≡ Some x → at_once x act ≡ false
        by (cell.Empty k) refuse at = absurd (let wrong : None ≡ Some x = at in cc)
        by (cell.Object o) refuse at = subst (λ (t : Thing). at_once t act ≡ false) (same_thing (thing_in shapes home o) x at) refl
        by (cell.List list) refuse at = subst (λ (t : Thing). at_once t act ≡ false) (same_thing (listed list) x at) refuse
        by (cell.Pairs pairs) refuse at = subst (λ (t : Thing). at_once t act ≡ false) (same_thing (thing.Pairs pairs) x at) refl
        by (cell.Mutex owner) refuse at = subst (λ (t : Thing). at_once t act ≡ false) (same_thing (thing.Mutex owner) x at) refl

    -- what is told of what is taken out of the cell is told of what is held
    pub taken_told_there : (side : Side) → told_answer (contents c) (taking side) ≡ told_answer (held h id) (taking side)
    taken_told_there side = by c side ∙ ap (λ o. told_answer o (taking side)) (sym (held_there id (Some c) is_found))
      where
        by : (d : Cell) (s : Side) → told_answer (contents d) (taking s) ≡ told_answer (still shapes home d) (taking s)
        by (cell.Empty k) s = refl
        by (cell.Object o) sides.First = refl
        by (cell.Object o) sides.Last = refl
        by (cell.List list) s = refl
        by (cell.Pairs pairs) s = refl
        by (cell.Mutex owner) s = refl

    list_held : (list : Stored Held) → c ≡ cell.List list → held h id ≡ Some (listed list)
    list_held list at = held_there id (Some c) is_found ∙ ap (still shapes home) at

    list_here : (list : Stored Held) → c ≡ cell.List list → IsSome (held h id)
    list_here list at = by (held h id) (list_held list at)
      where
        by : (o : Option Thing) → o ≡ Some (listed list) → IsSome o
        by None e = absurd (cc)
        by (Some u) e = refl

    module _ (c' : Cell) where
      abbrev cells_put : List Cell
      cells_put = set cells id.serial c'

      abbrev after : Private
      after = private_now thread shapes cells_put

      cells_same : c' ≡ c → cells_put ≡ cells
      cells_same e = ap (set cells id.serial) (e ∙ read) ∙ set-get_or cells id.serial c

      same_whole : c' ≡ c → AreWhole thread shapes cells_put
      same_whole e = subst (AreWhole thread shapes) (sym (cells_same e)) whole

      same_private : c' ≡ c → after ≡ h
      same_private e = ap (private_now thread shapes) (cells_same e) ∙ is

      -- a list that is what it was
      list_whole : (list : Stored Held) → c ≡ cell.List list → (later : Thing) → contents c' ≡ Some later → later ≡ listed list → AreWhole thread shapes cells_put
      list_whole list at later now same =
          let fits : IsWithin h.thread later = subst (IsWithin h.thread) (sym same) (is_within thread shapes cells h is whole id (list_here list at) c read (listed list) (ap contents at)) in
          contents_cells thread shapes cells h is whole id (list_here list at) c read c' (listed list) later (ap contents at) now fits

      list_left : (list : Stored Held) → c ≡ cell.List list → (later : Thing) → contents c' ≡ Some later → later ≡ listed list → after ≡ h
      list_left list at later now same = contents_left thread shapes cells h is whole id (list_here list at) c read c' (listed list) later (ap contents at) now same

      -- a list behind an act
      acted_whole : (list : Stored Held) → c ≡ cell.List list → (later : Thing) → contents c' ≡ Some later → (act : Act) → later ≡ becomes (listed list) act → AreWhole thread shapes cells_put
      acted_whole list at later now act become =
          let fits : IsWithin h.thread later = subst (IsWithin h.thread) (sym become) (stays_within h.thread (listed list) act (is_within thread shapes cells h is whole id (list_here list at) c read (listed list) (ap contents at))) in
          contents_cells thread shapes cells h is whole id (list_here list at) c read c' (listed list) later (ap contents at) now fits

      acted_private : (list : Stored Held) → c ≡ cell.List list → (later : Thing) → contents c' ≡ Some later → (act : Act) → later ≡ becomes (listed list) act → Becomes h id act after
      acted_private list at later now act become = contents_acted thread shapes cells h is whole id (list_here list at) c read c' (listed list) later (ap contents at) now act become

      -- ---- a write of a value

      module _ (act : Val → Act) (value : Option Val) (done : Bool) (writes : CellWrites done c act value c') where
        -- where it is said to be done the cell has a list
        module _ (P : Type 0) (is_done : done ≡ true)
            (of_list : (v : Val) (list : Stored Held) → value ≡ Some v → c ≡ cell.List list → (later : Thing) → contents c' ≡ Some later
            → (Done ≡ gives (listed list) (act v)) × (later ≡ becomes (listed list) (act v)) → P) where
          where_done : P
          where_done = by c refl (subst (λ d. CellWrites d c act value c') is_done writes)
            where
              listing : (v : Option Val) (list : Stored Held) → value ≡ v → c ≡ cell.List list → (later : Thing) → contents c' ≡ Some later → DoesWrite true (listed list) act v later → P
              listing None list told at later now e = absurd e
              listing (Some v) list told at later now e = of_list v list told at later now e

              by : (k : Cell) → c ≡ k → CellWrites true k act value c' → P
              by (cell.Empty k) at p = absurd (let e = p.1 in cc)
              by (cell.Object o) at p = absurd (let e = p.1 in cc)
              by (cell.List list) at p = listing value list refl at p.0 p.1 p.2
              by (cell.Pairs pairs) at p = absurd (let e = p.1 in cc)
              by (cell.Mutex owner) at p = absurd (let e = p.1 in cc)

        pub write_there : done ≡ true → is_some (held h id) ≡ true
        write_there is_done = where_done (is_some (held h id) ≡ true) is_done (λ v list told at later now does. ap is_some (list_held list at))

        pub write_told : done ≡ true → is_some value ≡ true
        write_told is_done = where_done (is_some value ≡ true) is_done (λ v list told at later now does. ap is_some told)

        pub write_gives : done ≡ true → IfSome value (λ v. Gives h id (act v) Done)
        write_gives is_done =
            where_done (IfSome value (λ v. Gives h id (act v) Done)) is_done
            (λ v list told at later now does.
            rw told (λ x e. does.0 ∙ ap (λ (t : Thing). gives_to h.thread t (act v)) (is_thing thread shapes cells h is whole id (list_here list at) c read (listed list) (ap contents at) x e)))

        pub write_private : done ≡ true → IfSome value (λ v. Becomes h id (act v) after)
        write_private is_done =
            where_done (IfSome value (λ v. Becomes h id (act v) after)) is_done
            (λ v list told at later now does. rw told (acted_private list at later now (act v) does.1))

        pub write_kept : done ≡ false → after ≡ h
        write_kept not_done = by c refl (subst (λ d. CellWrites d c act value c') not_done writes)
          where
            by : (k : Cell) → c ≡ k → CellWrites false k act value c' → after ≡ h
            by (cell.Empty k) at p = same_private (p.0 ∙ sym at)
            by (cell.Object o) at p = same_private (p.0 ∙ sym at)
            by (cell.List list) at p = list_left list at p.0 p.1 p.2
            by (cell.Pairs pairs) at p = same_private (p.0 ∙ sym at)
            by (cell.Mutex owner) at p = same_private (p.0 ∙ sym at)

        pub write_whole : AreWhole thread shapes cells_put
        write_whole = or_not done refl
          where
            by : (k : Cell) → c ≡ k → CellWrites false k act value c' → AreWhole thread shapes cells_put
            by (cell.Empty k) at p = same_whole (p.0 ∙ sym at)
            by (cell.Object o) at p = same_whole (p.0 ∙ sym at)
            by (cell.List list) at p = list_whole list at p.0 p.1 p.2
            by (cell.Pairs pairs) at p = same_whole (p.0 ∙ sym at)
            by (cell.Mutex owner) at p = same_whole (p.0 ∙ sym at)

            or_not : (d : Bool) → done ≡ d → AreWhole thread shapes cells_put
            or_not true is_done =
                where_done (AreWhole thread shapes cells_put) is_done (λ v list told at later now does. acted_whole list at later now (act v) does.1)
            or_not false not_done = by c refl (subst (λ d. CellWrites d c act value c') not_done writes)

      -- ---- a value that is taken out

      module _ (act : Act) where
        pub take_whole : (value : Option Val) → CellTakes value c act c' → AreWhole thread shapes cells_put
        take_whole value takes = by c refl value takes
          where
            by : (k : Cell) → c ≡ k → (v : Option Val) → CellTakes v k act c' → AreWhole thread shapes cells_put
            by (cell.Empty k) at v p = same_whole (p.0 ∙ sym at)
            by (cell.Object o) at v p = same_whole (p.0 ∙ sym at)
            by (cell.List list) at None p = list_whole list at p.0 p.1 p.2
            by (cell.List list) at (Some v) p = acted_whole list at p.0 p.1 act p.2
            by (cell.Pairs pairs) at v p = same_whole (p.0 ∙ sym at)
            by (cell.Mutex owner) at v p = same_whole (p.0 ∙ sym at)

        pub take_private : (value : Option Val) → CellTakes value c act c' → IfSome value (λ v. Becomes h id act after)
        take_private None takes = tt
        take_private (Some v) takes = by c refl takes
          where
            by : (k : Cell) → c ≡ k → CellTakes (Some v) k act c' → Becomes h id act after
            by (cell.Empty k) at p = absurd (let e = p.1 in cc)
            by (cell.Object o) at p = absurd (let e = p.1 in cc)
            by (cell.List list) at p = acted_private list at p.0 p.1 act p.2
            by (cell.Pairs pairs) at p = absurd (let e = p.1 in cc)
            by (cell.Mutex owner) at p = absurd (let e = p.1 in cc)

        pub take_kept : CellTakes None c act c' → after ≡ h
        take_kept takes = by c refl takes
          where
            by : (k : Cell) → c ≡ k → CellTakes None k act c' → after ≡ h
            by (cell.Empty k) at p = same_private (p.0 ∙ sym at)
            by (cell.Object o) at p = same_private (p.0 ∙ sym at)
            by (cell.List list) at p = list_left list at p.0 p.1 p.2
            by (cell.Pairs pairs) at p = same_private (p.0 ∙ sym at)
            by (cell.Mutex owner) at p = same_private (p.0 ∙ sym at)

  -- a read of a field, of an element or of a key, and a count, leave the heap as it was
  pub fields_only : (id : Id) (name : NameId) → Becomes h id (GetField name) h
  fields_only id name x e = idle thread shapes cells h is whole id (GetField name) x e (by x) (shaped (shape_held h id))
    where
      by : (t : Thing) → becomes_by h.thread t (GetField name) ≡ t
      by (thing.Object c fs) = refl
      by (thing.Elements vs) = refl
      by (thing.Pairs ps) = refl
      by (thing.Mutex o) = refl
      by (thing.Thread s) = refl

      shaped : (s : Option Shape) → option_map (shape_behind (GetField name)) s ≡ s
      shaped None = refl
      shaped (Some shape) = refl

  pub reads_only : (id : Id) (i : ℤ) → Becomes h id (At i) h
  reads_only id i x e = idle thread shapes cells h is whole id (At i) x e (by x) (shape_stays (At i) refl (shape_held h id))
    where
      by : (t : Thing) → becomes_by h.thread t (At i) ≡ t
      by (thing.Object c fs) = refl
      by (thing.Elements vs) = refl
      by (thing.Pairs ps) = refl
      by (thing.Mutex o) = refl
      by (thing.Thread s) = refl

  pub looks_only : (id : Id) (key : Val) → Becomes h id (KGet key) h
  looks_only id key x e = idle thread shapes cells h is whole id (KGet key) x e (by x) (shape_stays (KGet key) refl (shape_held h id))
    where
      by : (t : Thing) → becomes_by h.thread t (KGet key) ≡ t
      by (thing.Object c fs) = refl
      by (thing.Elements vs) = refl
      by (thing.Pairs ps) = refl
      by (thing.Mutex o) = refl
      by (thing.Thread s) = refl

  pub counts_only : (id : Id) → Becomes h id Len h
  counts_only id x e = idle thread shapes cells h is whole id Len x e (by x) (shape_stays Len refl (shape_held h id))
    where
      by : (t : Thing) → becomes_by h.thread t Len ≡ t
      by (thing.Object c fs) = refl
      by (thing.Elements vs) = refl
      by (thing.Pairs ps) = refl
      by (thing.Mutex o) = refl
      by (thing.Thread s) = refl
