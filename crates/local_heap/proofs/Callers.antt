-- What a caller of the heap knows of a thing that it made, and of one that it changed.
use Rattle.std.proofs.Common.{◌≡◌, ℕ, zero, suc, ◌==◌, Bool, true, false, cond, List, [], ◌∷◌, ◌++◌, length, set, Option, Some, None, refl, ap, ◌∙◌}
use Rattle.std.specs.Prelude.{slice_get}
use Rattle.std.proofs.lemmas.Bool.{eq-eqb}
use Rattle.rb_model.specs.declared.value.Id.{Id}
use Rattle.rb_model.specs.Things.{Thing}
use Rattle.rb_model.specs.Private.{Private, held, or_none, entered, changed, next_id}
use Rattle.shape_core.specs.Shape.{Shape}

newest : (xs : List (Option Thing)) (x : Thing) → or_none (slice_get (xs ++ Some x ∷ []) (length xs)) ≡ Some x
newest [] x = refl
newest (y ∷ xs) x = newest xs x

-- a thing that was made is held
pub held_entered : (h : Private) (x : Thing) → held (entered h x) (next_id h) ≡ Some x
held_entered h x =
    ap (λ b. cond b (or_none (slice_get (h.things ++ Some x ∷ []) (length h.things))) None) (eq-eqb h.thread h.thread refl)
    ∙ newest h.things x

written : (xs : List (Option Thing)) (i : ℕ) (x y : Thing) → or_none (slice_get xs i) ≡ Some y → or_none (slice_get (set xs i (Some x)) i) ≡ Some x
written [] i x y e = absurd (cc)
written (z ∷ xs) zero x y e = refl
written (z ∷ xs) (suc i) x y e = written xs i x y e

-- a thing that is held is what it was changed to
pub held_changed : (h : Private) (id : Id) (x y : Thing) (shape : Option Shape) → held h id ≡ Some y → held (changed h id x shape) id ≡ Some x
held_changed h id x y shape e = by (id.thread == h.thread) e
  where
    by : (b : Bool) → cond b (or_none (slice_get h.things id.serial)) None ≡ Some y
        → cond b (or_none (slice_get (set h.things id.serial (Some x)) id.serial)) None ≡ Some x
    by true e = written h.things id.serial x y e
    by false e = absurd (cc)

-- the same of private stores that are told
pub held_made : (h h' : Private) (id : Id) (x : Thing) → h' ≡ entered h x → id ≡ next_id h → held h' id ≡ Some x
held_made h h' id x made next = ap (λ (p : Private). held p id) made ∙ ap (held (entered h x)) next ∙ held_entered h x

pub held_done : (h h' : Private) (id : Id) (x y : Thing) (shape : Option Shape) → h' ≡ changed h id x shape → held h id ≡ Some y → held h' id ≡ Some x
held_done h h' id x y shape done there = ap (λ (p : Private). held p id) done ∙ held_changed h id x y shape there
