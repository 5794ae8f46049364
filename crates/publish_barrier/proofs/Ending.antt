-- What leaves mentions nothing private but what leaves with it.
use Rattle.std.proofs.Common.{◌≡◌, ◌==◌, Bool, true, false, List, [], ◌∷◌, Option, Some, None, inl, inr, refl, sym, ◌∙◌, subst}
use Rattle.std.specs.Prelude.{◌⊎◌}
use Rattle.std.specs.List.{list_any}
use Rattle.std.proofs.lemmas.Bool.Decides.{eqb_tells}
use Rattle.rb_model.specs.declared.value.Id.{Id}
use Rattle.rb_model.specs.Private.{Private, Item, Leaves, held, left}
use Rattle.rb_model.specs.Things.{Thing, mentioned}
use Rattle.rb_model.specs.Values.{Value as Val, Nil, False, True, Int, Sym, Str, To}
use Rattle.rb_shared.specs.Lists.{Each}
use Rattle.publish_barrier.specs.Leaving.{AllOut, ArePrivate, IsEnd, IsNamed, ItemsOut, serials, without}
use Rattle.publish_barrier.proofs.Leaving.{has_stayed, leaves_private, leaves_without}
use Rattle.publish_barrier.proofs.Lawful.{all_out}
use Rattle.publish_barrier.proofs.May.{held_own}
use Rattle.publish_barrier.proofs.Absence.{same_by}

by_serial : (h : Private) (ms : List Item) (id : Id) → ArePrivate h ms → id.thread ≡ h.thread → list_any (λ s. id.serial == s) (serials ms) ≡ true → IsNamed ms id
by_serial h [] id are own e = absurd (cc)
by_serial h (m ∷ ms) id are own e =
    elim (eqb_tells id.serial m.id.serial) [
      | inl w ↦ inl (same_by m.id id (held_own h m.id m.thing are.0 ∙ sym own) (sym w.1))
      | inr w ↦ inr (by_serial (left h m.id) ms id are.1 own (rw w.0 at e))
    ]

named_or_not : (h : Private) (ms : List Item) (id : Id) → ArePrivate h ms → held (without h ms) id ≡ None → (held h id ≡ None) ⊎ IsNamed ms id
named_or_not h ms id are gone = by (held h id) refl
  where
    among : (x : Thing) → held h id ≡ Some x → (b : Bool) → list_any (λ s. id.serial == s) (serials ms) ≡ b → IsNamed ms id
    among x e true t = by_serial h ms id are (held_own h id x e) t
    among x e false t =
        let wrong : None ≡ Some x = sym gone ∙ has_stayed h ms id t ∙ e in
        absurd (cc)

    by : (o : Option Thing) → held h id ≡ o → (held h id ≡ None) ⊎ IsNamed ms id
    by None e = inl e
    by (Some x) e = inr (among x e (list_any (λ s. id.serial == s) (serials ms)) refl)

module _ (h : Private) (ms : List Item) (are : ArePrivate h ms) where
  ends : (vs : List Val) → AllOut (without h ms) vs → Each (IsEnd h ms) vs
  ends [] out = tt
  ends (Nil ∷ vs) out = (tt, ends vs out.1)
  ends (False ∷ vs) out = (tt, ends vs out.1)
  ends (True ∷ vs) out = (tt, ends vs out.1)
  ends (Int n ∷ vs) out = (tt, ends vs out.1)
  ends (Sym n ∷ vs) out = (tt, ends vs out.1)
  ends (Str n ∷ vs) out = (tt, ends vs out.1)
  ends (To r ∷ vs) out = (named_or_not h ms r.id are out.0, ends vs out.1)

  item_ends : (ns : List Item) → ItemsOut (without h ms) ns → Each (λ (n : Item). Each (IsEnd h ms) (mentioned n.thing)) ns
  item_ends [] out = tt
  item_ends (n ∷ ns) out = (ends (mentioned n.thing) out.1, item_ends ns out.2)

pub all_end : (h k : Private) (vs : List Val) (ms : List Item) → Leaves h vs ms k → Each (IsEnd h ms) vs × Each (λ (m : Item). Each (IsEnd h ms) (mentioned m.thing)) ms
all_end h k vs ms l =
    let out : AllOut (without h ms) vs × ItemsOut (without h ms) ms = subst (λ (j : Private). AllOut j vs × ItemsOut j ms) (leaves_without l) (all_out l) in
    (ends h ms (leaves_private l) vs out.0, item_ends h ms (leaves_private l) ms out.1)
