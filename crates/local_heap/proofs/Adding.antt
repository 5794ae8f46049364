-- A heap before and behind the sum of a field and an integer.
use Rattle.std.proofs.Common.{◌≡◌, ℕ, false, List, get_or, set, map, Option, Some, None, refl, ap, sym, ◌∙◌, subst}
use Rattle.std.specs.Prelude.{ℤ, ◌+ℤ◌, ◌-ℤ◌, ◌↔◌, is_some, true, slice_index, IsSome, IfSome, IsSomeAnd, FitsSigned}
use Rattle.std.specs.Option.{option_map}
use Rattle.std.specs.Int.{w64}
use Rattle.std.proofs.lemmas.Int.{to_z-of_z}
use Rattle.std.proofs.Math.IntN.{+ℤ-neg_ℤ_cancel}
use Rattle.std.proofs.lemmas.List.{set-get_or}
use Rattle.rb_tree.specs.declared.span.NameId.{NameId}
use Rattle.rb_model.specs.declared.value.Id.{Id}
use Rattle.rb_model.specs.Values.{Value as Val, Int, plain}
use Rattle.rb_model.specs.Acts.{GetField, SetField, Done}
use Rattle.rb_model.specs.Acts as reply
use Rattle.rb_model.specs.Things.{Thing, field, gives_to}
use Rattle.rb_model.specs.Things as thing
use Rattle.rb_model.specs.Private.{Becomes, Gives, Private, held}
use Rattle.shape_core.specs.declared.edge.Kind.TheVariants.{IntLoc, AnyLoc}
use Rattle.shape_core.specs.declared.facts.Place.{Place}
use Rattle.shape_core.specs.Path.{Path, IsPath, find_on}
use Rattle.shape_core.specs.Shape.{Shape, path_at}
use Rattle.shape_core.proofs.Paths.{Found}
use Rattle.local_heap.specs.declared.object.Object.{Object}
use Rattle.local_heap.specs.declared.cells.Cell.{Cell}
use Rattle.local_heap.specs.declared.cells.Cell.TheVariants as cell
use Rattle.local_heap.specs.declared.slot.Whose.TheVariants.{Others}
use Rattle.typed_location.specs.Word.{twos_complement}
use Rattle.local_heap.specs.Words.{IsSum, integer_of}
use Rattle.local_heap.specs.Slots.{Home, Puts, Standing, slot_at, whole_at}
use Rattle.local_heap.specs.Fields.{IsSumFound, fields_of, is_any}
use Rattle.local_heap.specs.Memory.{HasSum, wide_on}
use Rattle.local_heap.specs.Cells.{IsObject, IsSound, Acted, Written, cell_at, home_by, shape_in, still, thing_in}
use Rattle.local_heap.proofs.Objects.{read_slot, wide_is}
use Rattle.local_heap.proofs.Writing.{integer_put, puts_itself}
use Rattle.local_heap.proofs.Acting.{AreWhole, private_now, acted_cells, acted_private, object_is, sound_is, thing_is, written_acted}
use Rattle.local_heap.proofs.Looking.{held_there}

-- what was there is the sum without what was added
without : (m n sum : ℤ) → sum ≡ m +ℤ n → m ≡ sum -ℤ n
without m n sum e = sym (+ℤ-neg_ℤ_cancel m n) ∙ ap (λ x. x -ℤ n) (sym e)

-- the field of which there is a sum holds an integer
summed : (home : Home) (path : Path) (slots : ℕ → Standing) (name : NameId) (n sum : ℤ) → IsPath path
    → IsSumFound slots (find_on path name) n (Some sum) → field name (fields_of home path slots) ≡ Int (sum -ℤ n)
summed home path slots name n sum valid is = by (find_on path name) refl is
  where
    by : (o : Option Found) → find_on path name ≡ o → IsSumFound slots o n (Some sum) → field name (fields_of home path slots) ≡ Int (sum -ℤ n)
    by None e s = absurd (cc)
    by (Some (place, IntLoc)) e s = read_slot home path slots name place IntLoc valid e ∙ ap Int (without (integer_of (slots place.0).word) n sum s.1)
    by (Some (place, AnyLoc)) e s = absurd (cc)

-- there is a sum exactly where the field of an object has one
module _ (class : ℕ) (home : Home) (path : Path) (slots : ℕ → Standing) (name : NameId) (n : ℤ) (valid : IsPath path) where
  abbrev Fits : Type 0
  Fits = HasSum (thing.Object class (fields_of home path slots)) name n

  no_field : (found : Option Found) → find_on path name ≡ found → option_map is_any (option_map (λ (f : Found). f.1) found) ≡ Some false → wide_on name (fields_of home path slots) ≡ Some false
  no_field found at is = wide_is home path slots name valid ∙ ap (λ o. option_map is_any (option_map (λ (f : Found). f.1) o)) at ∙ is

  known_wide : (found : Option Found) → find_on path name ≡ found → Fits → option_map is_any (option_map (λ (f : Found). f.1) found) ≡ Some false
  known_wide found at fits = sym (wide_is home path slots name valid ∙ ap (λ o. option_map is_any (option_map (λ (f : Found). f.1) o)) at) ∙ fits.0

  has_sum : (sum : Option ℤ) → IsSumFound slots (find_on path name) n sum → (is_some sum ≡ true) ↔ Fits
  has_sum sum is = by (find_on path name) refl is
    where
      none : (s : Option ℤ) → s ≡ None → (Fits → ⊥) → (is_some s ≡ true) ↔ Fits
      none None e no_fits = (λ wrong. absurd (let w : false ≡ true = wrong in cc), λ fits. absurd (no_fits fits))
      none (Some s) e no_fits = absurd (cc)

      integer : (place : Place) → find_on path name ≡ Some (place, IntLoc) → (s : Option ℤ) → IsSum (slots place.0).word n s → (is_some s ≡ true) ↔ Fits
      integer place at (Some s) e = (λ _. (no_field (Some (place, IntLoc)) at refl, integer_of (slots place.0).word, read_slot home path slots name place IntLoc valid at, e.0), λ _. refl)
      integer place at None e = (
        λ wrong. absurd (let w : false ≡ true = wrong in cc),
        λ fits.
            let here : Int (integer_of (slots place.0).word) ≡ Int fits.1 = sym (read_slot home path slots name place IntLoc valid at) ∙ fits.2 in
            let same : integer_of (slots place.0).word ≡ fits.1 = cc in
            absurd (e (subst (λ m. FitsSigned w64 (m +ℤ n)) (sym same) fits.3)),
      )

      by : (o : Option Found) → find_on path name ≡ o → IsSumFound slots o n sum → (is_some sum ≡ true) ↔ Fits
      by None at e = none sum e (λ fits. let wrong : None ≡ Some false = known_wide None at fits in absurd (cc))
      by (Some (place, IntLoc)) at e = integer place at sum e
      by (Some (place, AnyLoc)) at e = none sum e (λ fits. let wrong : Some true ≡ Some false = known_wide (Some (place, AnyLoc)) at fits in absurd (cc))

-- a word that is the sum's, at the place of a name that holds integers alone, is a write of the sum
pub sum_written : (shapes : List Shape) (o o' : Object) (name : NameId) (place : Place) (n : ℤ) (result : Option ℤ) → IsObject shapes o
    → find_on (path_at shapes o.shape) name ≡ Some (place, IntLoc) → o'.shape ≡ o.shape → o'.whole ≡ o.whole
    → IsSum (slice_index o.words.items place.0) n result
    → IfSome result (λ s. o'.words.items ≡ set o.words.items place.0 (twos_complement 64 s)) → IfSome result (λ s. Written shapes o name (Int s) Others shapes o')
sum_written shapes o o' name place n None object found same whole sum words = tt
sum_written shapes o o' name place n (Some s) object found same whole sum words =
    let fits : FitsSigned w64 s = subst (FitsSigned w64) (sym sum.1) sum.0 in
    integer_put shapes o o' name place IntLoc (twos_complement 64 s) (whole_at (map plain o.whole.items) place.0) object found same words
    (subst (λ (row : List Val). Puts (map plain o.whole.items) place.0 (whole_at (map plain o.whole.items) place.0) row) (ap (λ w. map plain w.items) (sym whole)) (puts_itself (map plain o.whole.items) place.0))
    (Int s) s Others refl refl fits (ap (twos_complement 64) (sym (to_z-of_z w64 s fits)))

-- A private store, before the sum of a field and an integer was asked for, and the cells behind that.
pub record Summed (h : Private) (id : Id) (name : NameId) (n : ℤ) (sum : Option ℤ) (thread : ℕ) (shapes : List Shape) (cells : List Cell) : Type 0 where
  pub whole : AreWhole thread shapes cells
  pub there : IfSome sum (λ s. is_some (held h id) ≡ true)
  pub gave : IfSome sum (λ s. Gives h id (GetField name) (reply.Value (Int (s -ℤ n))))
  pub gives : IfSome sum (λ s. Gives h id (SetField name (Int s)) Done)
  pub private : IfSome sum (λ s. Becomes h id (SetField name (Int s)) (private_now thread shapes cells))
  pub none : sum ≡ None → private_now thread shapes cells ≡ h
  pub exact : (is_some sum ≡ true) ↔ IsSomeAnd (held h id) (λ t. HasSum t name n)

module _ (thread : ℕ) (shapes : List Shape) (cells : List Cell) (h : Private) (is : private_now thread shapes cells ≡ h) (whole : AreWhole thread shapes cells)
    (id : Id) (c : Cell) (is_found : Some c ≡ cell_at thread cells id) (read : c ≡ get_or cells id.serial c) where
  abbrev home : Home
  home = home_by thread shapes cells

  -- a cell that stays as it was is put back
  put_back : (c' : Cell) → c' ≡ c → set cells id.serial c' ≡ cells
  put_back c' same = ap (set cells id.serial) (same ∙ read) ∙ set-get_or cells id.serial c

  back_whole : (c' : Cell) → c' ≡ c → AreWhole thread shapes (set cells id.serial c')
  back_whole c' same = subst (AreWhole thread shapes) (sym (put_back c' same)) whole

  back_private : (c' : Cell) → c' ≡ c → private_now thread shapes (set cells id.serial c') ≡ h
  back_private c' same = ap (private_now thread shapes) (put_back c' same) ∙ is

  -- no sum
  no_sum : (name : NameId) (n : ℤ) (c' : Cell) → c' ≡ c → (false ≡ true) ↔ IsSomeAnd (held h id) (λ t. HasSum t name n) → Summed h id name n None thread shapes (set cells id.serial c')
  no_sum name n c' same exact = record { whole = back_whole c' same; there = tt; gave = tt; gives = tt; private = tt; none = λ e. back_private c' same; exact = exact }

  -- none of what is no object
  pub no_object : (name : NameId) (n : ℤ) → ((o : Object) → c ≡ cell.Object o → ⊥) → Summed h id name n None thread shapes (set cells id.serial c)
  no_object name n other =
      no_sum name n c refl (
        λ wrong. absurd (let w : false ≡ true = wrong in cc),
        λ some. absurd (by c other (subst (λ o. IsSomeAnd o (λ t. HasSum t name n)) (held_there thread shapes cells h is whole id (Some c) is_found) some)),
      )
    where
      by : (d : Cell) → ((o : Object) → d ≡ cell.Object o → ⊥) → IsSomeAnd (still shapes home d) (λ t. HasSum t name n) → ⊥
      by (cell.Empty k) other some = some
      by (cell.Object o) other some = other o refl
      by (cell.List list) other some = some
      by (cell.Pairs pairs) other some = some
      by (cell.Mutex owner) other some = some

  module _ (o : Object) (at : c ≡ cell.Object o) where
    held_is : held h id ≡ Some (thing_in shapes home o)
    held_is = held_there thread shapes cells h is whole id (Some c) is_found ∙ ap (still shapes home) at

    object_held : IsSome (held h id)
    object_held = by (held h id) held_is
      where
        by : (t : Option Thing) → t ≡ Some (thing_in shapes home o) → IsSome t
        by None e = absurd (cc)
        by (Some u) e = refl

    is_object : IsObject shapes o
    is_object = object_is thread shapes cells h is id object_held c o read at whole.0 whole.1

    pub is_sound : IsSound shapes home o
    is_sound = sound_is thread shapes cells h is id object_held c o read at whole.0 whole.1

    is_it : (x : Thing) → held h id ≡ Some x → thing_in shapes home o ≡ x
    is_it = thing_is thread shapes cells h is id object_held c o read at whole.0 whole.1

    -- the cells with what the object becomes
    module _ (name : NameId) (n : ℤ) (o' : Object) where
      abbrev cells_then : List Cell
      cells_then = set cells id.serial (cell.Object o')

      acted : (s : ℤ) → Written shapes o name (Int s) Others shapes o' → Acted shapes home o (SetField name (Int s)) shapes o'
      acted s w = written_acted shapes home o name (Int s) Others shapes o' w is_sound tt

      exact_there : (sum : Option ℤ) → IsSumFound (slot_at o) (find_on (path_at shapes o.shape) name) n sum → (is_some sum ≡ true) ↔ IsSomeAnd (held h id) (λ t. HasSum t name n)
      exact_there sum found = rw held_is (has_sum (shape_in shapes o).class home (path_at shapes o.shape) (slot_at o) name n is_object.valid sum found)

      pub sum_there : (sum : Option ℤ) → IsSumFound (slot_at o) (find_on (path_at shapes o.shape) name) n sum
          → IfSome sum (λ s. Written shapes o name (Int s) Others shapes o') → (sum ≡ None → o' ≡ o) → Summed h id name n sum thread shapes cells_then
      sum_there None found written kept = no_sum name n (cell.Object o') (ap cell.Object (kept refl) ∙ sym at) (exact_there None found)
      sum_there (Some s) found written kept =
          let here : Acted shapes home o (SetField name (Int s)) shapes o' = acted s written in
          record {
            whole = acted_cells thread shapes cells h is id object_held c o read at whole.0 whole.1 shapes o' (SetField name (Int s)) here;
            there = object_held;
            gave = λ x e.
                ap reply.Value (sym (summed home (path_at shapes o.shape) (slot_at o) name n s is_object.valid found))
                ∙ ap (λ (t : Thing). gives_to h.thread t (GetField name)) (is_it x e);
            gives = λ x e. ap (λ (t : Thing). gives_to h.thread t (SetField name (Int s))) (is_it x e);
            private = acted_private thread shapes cells h is id object_held c o read at whole.0 whole.1 shapes o' (SetField name (Int s)) here;
            none = λ e. absurd (cc);
            exact = exact_there (Some s) found;
          }
