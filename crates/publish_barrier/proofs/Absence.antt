-- What has left a private store does not come back.
use Rattle.std.proofs.Common.{◌≡◌, ◌<◌, ◌==◌, ℕ, zero, suc, Bool, true, false, cond, List, [], ◌∷◌, ◌++◌, length, set, Option, Some, None, refl, sym, ap, ◌∙◌, subst, arith}
use Rattle.std.proofs.lemmas.List.{length-append, length-set}
use Rattle.shape_core.specs.Shape.{Shape}
use Rattle.rb_model.specs.declared.moved.MovedItem.{MovedItem}
use Rattle.rb_model.specs.declared.value.Id.{Id}
use Rattle.rb_model.specs.Acts.{Act}
use Rattle.rb_model.specs.Moving.{item_of, items_of}
use Rattle.rb_model.specs.Private.{Private, Item, Leaves, acted, changed, entered, held, left}
use Rattle.rb_model.specs.Things.{Thing, Mutex}
use Rattle.rb_model.specs.Values.{Value as Val, same_id}
use Rattle.rb_shared.specs.Asking.{IsNoneOf}
use Rattle.rb_shared.specs.Lists.{Each}
use Rattle.publish_barrier.specs.Absent.{HasLeft}
use Rattle.publish_barrier.specs.Leaving.{ArePrivate, without}
use Rattle.publish_barrier.proofs.Leaving.{leaves_private, leaves_without, left_gone, still_none, thing_at}
use Rattle.publish_barrier.proofs.May.{held_own, same_ids}

one_left : (h : Private) (other id : Id) → HasLeft h id → HasLeft (left h other) id
one_left h other id is = record {
  own = is.own;
  made = subst (λ n. id.serial < n) (sym (length-set h.things other.serial None)) is.made;
  gone = still_none h (record { id = other; thing = Mutex None } ∷ []) id is.gone;
}

pub stay_left : (h : Private) (ms : List Item) (id : Id) → HasLeft h id → HasLeft (without h ms) id
stay_left h [] id is = is
stay_left h (m ∷ ms) id is = stay_left (left h m.id) ms id (one_left h m.id id is)

within : (os : List (Option Thing)) (i : ℕ) (thing : Thing) → thing_at os i ≡ Some thing → i < length os
within [] i thing e = absurd (cc)
within (o ∷ os) zero thing e = omega arith
within (o ∷ os) (suc i) thing e = let w = within os i thing e in omega (arith, w)

held_at : (b : Bool) (o : Option Thing) (x : Thing) → cond b o None ≡ Some x → o ≡ Some x
held_at true o x e = e
held_at false o x e = absurd (cc)

just_left : (h : Private) (id : Id) (thing : Thing) → held h id ≡ Some thing → HasLeft (left h id) id
just_left h id thing e = record {
  own = held_own h id thing e;
  made = subst (λ n. id.serial < n) (sym (length-set h.things id.serial None)) (within h.things id.serial thing (held_at (id.thread == h.thread) (thing_at h.things id.serial) thing e));
  gone = left_gone h id id refl;
}

each_left : (h : Private) (ms : List Item) → ArePrivate h ms → Each (λ (m : Item). HasLeft (without h ms) m.id) ms
each_left h [] are = tt
each_left h (m ∷ ms) are = (stay_left (left h m.id) ms m.id (just_left h m.id m.thing are.0), each_left (left h m.id) ms are.1)

-- each thing that leaves has left
pub all_left : (h k : Private) (vs : List Val) (ms : List Item) → Leaves h vs ms k → Each (λ (m : Item). HasLeft k m.id) ms
all_left h k vs ms l = subst (λ (j : Private). Each (λ (m : Item). HasLeft j m.id) ms) (sym (leaves_without l)) (each_left h ms (leaves_private l))

-- and what has left has not come back behind others
pub left_behind : (h k : Private) (vs : List Val) (ms : List Item) (id : Id) → Leaves h vs ms k → HasLeft h id → HasLeft k id
left_behind h k vs ms id l is = subst (λ (j : Private). HasLeft j id) (sym (leaves_without l)) (stay_left h ms id is)

-- ---- nor by a new thing, or by an act

older : (os : List (Option Thing)) (o : Option Thing) (i : ℕ) → i < length os → thing_at (os ++ o ∷ []) i ≡ thing_at os i
older [] o i h = absurd (omega (arith, h))
older (x ∷ os) o zero h = refl
older (x ∷ os) o (suc i) h = older os o i (omega (arith, h))

pub left_entered : (h : Private) (thing : Thing) (id : Id) → HasLeft h id → HasLeft (entered h thing) id
left_entered h thing id is = record {
  own = is.own;
  made = let long = length-append h.things (Some thing ∷ []) in let few = is.made in omega (arith, long, few);
  gone = ap (λ o. cond (id.thread == h.thread) o None) (older h.things (Some thing) id.serial is.made) ∙ is.gone;
}

set_apart : (os : List (Option Thing)) (o : Option Thing) (i j : ℕ) → (j ≡ i → ⊥) → thing_at (set os i o) j ≡ thing_at os j
set_apart [] o i j apart = refl
set_apart (x ∷ os) o zero zero apart = absurd (apart refl)
set_apart (x ∷ os) o zero (suc j) apart = refl
set_apart (x ∷ os) o (suc i) zero apart = refl
set_apart (x ∷ os) o (suc i) (suc j) apart = set_apart os o i j (λ e. apart (ap suc e))

pub same_by : (a b : Id) → a.thread ≡ b.thread → a.serial ≡ b.serial → a ≡ b
same_by a b thread serial =
    ap (λ (n : ℕ). let x : Id = record { thread = n; serial = a.serial } in x) thread ∙ ap (λ (n : ℕ). let x : Id = record { thread = b.thread; serial = n } in x) serial

left_changed : (h : Private) (other : Id) (x thing : Thing) (shape : Option Shape) (id : Id) → held h other ≡ Some x → HasLeft h id → HasLeft (changed h other thing shape) id
left_changed h other x thing shape id there is = record {
  own = is.own;
  made = subst (λ n. id.serial < n) (sym (length-set h.things other.serial (Some thing))) is.made;
  gone = ap (λ o. cond (id.thread == h.thread) o None) (set_apart h.things (Some thing) other.serial id.serial apart) ∙ is.gone;
}
  where
    apart : id.serial ≡ other.serial → ⊥
    apart e =
        let same : id ≡ other = same_by id other (is.own ∙ sym (held_own h other x there)) e in
        let wrong : None ≡ Some x = sym is.gone ∙ ap (held h) same ∙ there in
        absurd (cc)

pub left_acted : (h : Private) (other : Id) (act : Act) (x : Thing) (id : Id) → held h other ≡ Some x → HasLeft h id → HasLeft (acted h other act x) id
left_acted h other act x id there is = left_changed h other x _ _ id there is

-- ---- so nothing moves that has left

none_of : (h : Private) (ids : List Id) (id : Id) (thing : Thing) → held h id ≡ Some thing → Each (HasLeft h) ids → IsNoneOf ids id
none_of h [] id thing e gone = tt
none_of h (x ∷ ids) id thing e gone = (by (same_id x id) refl, none_of h ids id thing e gone.1)
  where
    by : (b : Bool) → same_id x id ≡ b → same_id x id ≡ false
    by false f = f
    by true f =
        let wrong : None ≡ Some thing = sym gone.0.gone ∙ ap (held h) (same_ids x id f) ∙ e in
        absurd (cc)

each_stays : (h : Private) (other : Id) (ids : List Id) → Each (HasLeft h) ids → Each (HasLeft (left h other)) ids
each_stays h other [] gone = tt
each_stays h other (x ∷ ids) gone = (one_left h other x gone.0, each_stays h other ids gone.1)

all_first : (h : Private) (ids : List Id) (ms : List MovedItem) → Each (HasLeft h) ids → ArePrivate h (items_of ms) → Each (λ (m : MovedItem). IsNoneOf ids m.id) ms
all_first h ids [] gone are = tt
all_first h ids (m ∷ ms) gone are = (none_of h ids m.id (item_of m).thing are.0 gone, all_first (left h m.id) ids ms (each_stays h m.id ids gone) are.1)

pub moves_first : (h k : Private) (vs : List Val) (ms : List MovedItem) (ids : List Id) → Leaves h vs (items_of ms) k → Each (HasLeft h) ids → Each (λ (m : MovedItem). IsNoneOf ids m.id) ms
moves_first h k vs ms ids l gone = all_first h ids ms gone (leaves_private l)
