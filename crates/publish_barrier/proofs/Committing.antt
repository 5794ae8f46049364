-- Things that leave one after the other.
use Rattle.std.proofs.Common.{◌≡◌, ◌<◌, ◌≤◌, ◌+◌, ℕ, zero, suc, List, [], ◌∷◌, drop, length, map, Option, Some, None, refl, sym, ap, ◌∙◌, subst, arith}
use Rattle.std.specs.Prelude.{slice_get, IsSome}
use Rattle.rb_model.specs.declared.moved.MovedItem.{MovedItem}
use Rattle.rb_model.specs.declared.value.Ref.{Ref}
use Rattle.rb_model.specs.Doing.{seen}
use Rattle.rb_model.specs.Moving.{items_of, ref_of}
use Rattle.rb_model.specs.Private.{Private, held, left}
use Rattle.rb_model.specs.Things.{Thing}
use Rattle.publish_barrier.specs.Leaving.{ArePrivate, without}
use Rattle.publish_barrier.specs.Known.{noted, with_all_noted, with_noted}

-- the thing at a number
at_number : (ms : List MovedItem) (n : ℕ) → n < length ms → (m : MovedItem) × (slice_get ms n ≡ Some m) × (drop n ms ≡ m ∷ drop (suc n) ms)
at_number [] n h = absurd (omega (arith, h))
at_number (m ∷ ms) zero h = (m, refl, refl)
at_number (m ∷ ms) (suc n) h = at_number ms n (omega (arith, h))

past : (ms : List MovedItem) (n : ℕ) → length ms ≤ n → drop n ms ≡ []
past [] zero h = refl
past [] (suc n) h = refl
past (m ∷ ms) zero h = absurd (omega (arith, h))
past (m ∷ ms) (suc n) h = past ms n (omega (arith, h))

same_item : (ms : List MovedItem) (n : ℕ) (x m : MovedItem) → slice_get ms n ≡ Some x → slice_get ms n ≡ Some m → x ≡ m
same_item ms n x m e f = cc

some : (o : Option Thing) (thing : Thing) → o ≡ Some thing → IsSome o
some None thing e = absurd (cc)
some (Some x) thing e = refl

-- so many things have left: those that are still to leave complete the whole
pub record Leaving (h₀ h : Private) (refs₀ refs : List Ref) (room : ℕ) (ms : List MovedItem) (n : ℕ) : Type 0 where
  pub left : without h (items_of (drop n ms)) ≡ without h₀ (items_of ms)
  pub private : ArePrivate h (items_of (drop n ms))
  pub notes : with_all_noted refs (map ref_of (drop n ms)) ≡ with_all_noted refs₀ (map ref_of ms)
  pub fits : length (drop n ms) ≤ room

pub none_left : (h : Private) (refs : List Ref) (room : ℕ) (ms : List MovedItem) → ArePrivate h (items_of ms) → length ms ≤ room → Leaving h h refs refs room ms 0
none_left h refs room ms are fits = record { left = refl; private = are; notes = refl; fits = fits }

module _ (h₀ h : Private) (refs₀ refs : List Ref) (room : ℕ) (ms : List MovedItem) (n : ℕ) (is : Leaving h₀ h refs₀ refs room ms n) where
  pub is_private : n < length ms → (m : MovedItem) → slice_get ms n ≡ Some m → IsSome (held h m.id)
  is_private within m at =
      let found = at_number ms n within in
      let same = same_item ms n found.0 m found.1 at in
      let are : ArePrivate h (items_of (found.0 ∷ drop (suc n) ms)) = subst (λ xs. ArePrivate h (items_of xs)) found.2 is.private in
      subst (λ (x : MovedItem). IsSome (held h x.id)) same (some (held h found.0.id) (seen found.0.thing) are.0)

  pub has_room : n < length ms → 0 < room
  has_room within =
      let found = at_number ms n within in
      let long = ap length found.2 in
      let fits = is.fits in
      omega (arith, long, fits)

  pub one_leaves : (h' : Private) (refs' : List Ref) (room' : ℕ) → n < length ms → ((m : MovedItem) → slice_get ms n ≡ Some m → h' ≡ left h m.id)
      → ((m : MovedItem) → slice_get ms n ≡ Some m → refs' ≡ with_noted refs (ref_of m) (noted refs m.id)) → room ≤ room' + 1 → Leaving h₀ h' refs₀ refs' room' ms (n + 1)
  one_leaves h' refs' room' within leaves notes keeps =
      let found = at_number ms n within in
      let next : n + 1 ≡ suc n = omega arith in
      let gone = leaves found.0 found.1 in
      let more = notes found.0 found.1 in
      let are : ArePrivate h (items_of (found.0 ∷ drop (suc n) ms)) = subst (λ xs. ArePrivate h (items_of xs)) found.2 is.private in
      let long = ap length found.2 in
      let fits = is.fits in
      let few : length (drop (suc n) ms) ≤ room' = omega (arith, long, fits, keeps) in
      subst (Leaving h₀ h' refs₀ refs' room' ms) (sym next) record {
        left = ap (λ k. without k (items_of (drop (suc n) ms))) gone ∙ sym (ap (λ xs. without h (items_of xs)) found.2) ∙ is.left;
        private = subst (λ k. ArePrivate k (items_of (drop (suc n) ms))) (sym gone) are.1;
        notes = ap (λ rs. with_all_noted rs (map ref_of (drop (suc n) ms))) more ∙ sym (ap (λ xs. with_all_noted refs (map ref_of xs)) found.2) ∙ is.notes;
        fits = few;
      }

  pub all_left : length ms ≤ n → (h ≡ without h₀ (items_of ms)) × (refs ≡ with_all_noted refs₀ (map ref_of ms))
  all_left over =
      let empty = past ms n over in
      (sym (ap (λ xs. without h (items_of xs)) empty) ∙ is.left, sym (ap (λ xs. with_all_noted refs (map ref_of xs)) empty) ∙ is.notes)
