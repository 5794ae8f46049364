-- What leaves a private store may move with a call.
use Rattle.std.proofs.Common.{◌≡◌, ◌==◌, ℕ, Bool, true, false, cond, List, [], ◌∷◌, Option, Some, None, inl, inr, refl, sym, ap, ◌∙◌}
use Rattle.std.specs.Prelude.{slice_get}
use Rattle.std.specs.List.{AllByRecursion}
use Rattle.std.proofs.lemmas.Bool.{and_parts, eq-eqb}
use Rattle.std.specs.Cmp.{unsigned_Decides}
use Rattle.rb_model.specs.declared.moved.MovedItem.{MovedItem}
use Rattle.rb_model.specs.declared.value.Id.{Id}
use Rattle.rb_model.specs.Doing.{seen}
use Rattle.rb_model.specs.Moving.{item_of, items_of}
use Rattle.rb_model.specs.Private.{Private, held, left, or_none, shape_held}
use Rattle.rb_model.specs.Things.{Thing, Field, Object, Elements, Pairs, Mutex, Thread}
use Rattle.rb_model.specs.Values.{Value as Val, same_id}
use Rattle.rb_shared.specs.Asking.{AllDiffer, AreFields, ArePairs, HasName, IsNoneOf, MayMove}
use Rattle.shape_core.specs.Shape.{Shape}
use Rattle.local_heap.specs.Agreement.{AgreesAt, AgreesWith, AreNamesOnce, IsWideEnough, has_name}
use Rattle.local_heap.specs.Limits.{AreKeysOnce, IsWithin, IsWithinAt}
use Rattle.publish_barrier.specs.Leaving.{ArePrivate, IsNoThread, ids_of}
use Rattle.publish_barrier.proofs.Leaving.{left_gone, still_none}

-- ---- each once

pub same_ids : (a b : Id) → same_id a b ≡ true → a ≡ b
same_ids a b e =
    let p = and_parts (a.thread == b.thread) (a.serial == b.serial) e in
    let t = (unsigned_Decides a.thread b.thread).0 p.0 in
    let s = (unsigned_Decides a.serial b.serial).0 p.1 in
    ap (λ x. record { thread = x; serial = a.serial }) t ∙ ap (λ y. record { thread = b.thread; serial = y }) s

none_private : (h : Private) (ms : List MovedItem) (id : Id) → held h id ≡ None → ArePrivate h (items_of ms) → IsNoneOf (ids_of ms) id
none_private h [] id gone are = tt
none_private h (m ∷ ms) id gone are = (by (same_id m.id id) refl, none_private (left h m.id) ms id (still_none h (item_of m ∷ []) id gone) are.1)
  where
    by : (b : Bool) → same_id m.id id ≡ b → same_id m.id id ≡ false
    by false e = e
    by true e =
        let wrong : None ≡ Some (seen m.thing) = sym gone ∙ ap (held h) (sym (same_ids m.id id e)) ∙ are.0 in
        absurd (cc)

pub all_differ : (h : Private) (ms : List MovedItem) → ArePrivate h (items_of ms) → AllDiffer (ids_of ms)
all_differ h [] are = tt
all_differ h (m ∷ ms) are = (none_private (left h m.id) ms m.id (left_gone h m.id m.id refl) are.1, all_differ (left h m.id) ms are.1)

-- ---- one thing

has_named : (fs : List Field) (f : Field) → HasName fs f → has_name f.name fs ≡ true
has_named [] f has = absurd has
has_named (g ∷ gs) f (inl e) =
    let same : (g.name.0 == f.name.0) ≡ true = eq-eqb g.name.0 f.name.0 (ap (λ n. n.0) e) in
    rw same refl
has_named (g ∷ gs) f (inr has) = by (g.name.0 == f.name.0) (has_named gs f has)
  where
    by : (b : Bool) → has_name f.name gs ≡ true → cond b true (has_name f.name gs) ≡ true
    by true e = refl
    by false e = e

are_fields : (fs : List Field) → AreNamesOnce fs → AllByRecursion IsWideEnough fs → AreFields fs
are_fields [] once wide = tt
are_fields (f ∷ fs) once wide = (
  λ has. absurd (let wrong : false ≡ true = sym once.0 ∙ has_named fs f has in cc),
  wide.0,
  are_fields fs once.1 wide.1,
)

are_pairs : (ps : List (Val × Val)) → AreKeysOnce ps → ArePairs ps
are_pairs [] once = tt
are_pairs (p ∷ ps) once = (once.0, are_pairs ps once.1)

fields_of_shape : (shape : Option Shape) (class : ℕ) (fields : List Field) → AgreesWith shape (Object class fields) → AreFields fields
fields_of_shape None class fields agrees = absurd agrees
fields_of_shape (Some shape) class fields agrees = are_fields fields agrees.once agrees.wide

pub may_move : (h : Private) (id : Id) (thing : Thing) → AgreesAt h id → IsWithinAt h id → held h id ≡ Some thing → MayMove h.thread thing
may_move h id (Object class fields) agrees within e = fields_of_shape (shape_held h id) class fields (agrees (Object class fields) e)
may_move h id (Elements vs) agrees within e = within (Elements vs) e
may_move h id (Pairs ps) agrees within e = let w = within (Pairs ps) e in (w.0, are_pairs ps w.1)
may_move h id (Mutex None) agrees within e = tt
may_move h id (Mutex (Some owner)) agrees within e = within (Mutex (Some owner)) e
may_move h id (Thread s) agrees within e = absurd (within (Thread s) e)

pub no_thread : (t : ℕ) (thing : Thing) → IsWithin t thing → IsNoThread thing
no_thread t (Object class fields) w = tt
no_thread t (Elements vs) w = tt
no_thread t (Pairs ps) w = tt
no_thread t (Mutex owner) w = tt
no_thread t (Thread s) w = w

-- what is held is of the thread
pub held_own : (h : Private) (id : Id) (thing : Thing) → held h id ≡ Some thing → id.thread ≡ h.thread
held_own h id thing e = by (id.thread == h.thread) refl e
  where
    by : (b : Bool) → (id.thread == h.thread) ≡ b → cond b (or_none (slice_get h.things id.serial)) None ≡ Some thing → id.thread ≡ h.thread
    by true t e = (unsigned_Decides id.thread h.thread).0 t
    by false t e = absurd (cc)
