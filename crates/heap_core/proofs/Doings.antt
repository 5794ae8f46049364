-- What is in progress, by place.
use Rattle.std.proofs.Common.{◌≡◌, ◌==◌, ℕ, Bool, true, false, cond, List, [], ◌∷◌, refl, sym, ap, ◌∙◌, eq-eqb, ne_eqb, eqb-true}
use Rattle.heap_core.specs.View.{Busy, Doing, busy_at, set_busy}

-- set here
pub busy_set : (at : ℕ) (b : Busy) (ds : List Doing) → busy_at at (set_busy (record { at = at; busy = b }) ds) ≡ b
busy_set at b [] = ap (λ x. cond x b (busy_at at [])) (eq-eqb at at refl)
busy_set at b (e ∷ es) = by_test (busy_set at b es) (e.at == at) refl
  where
    by_test : busy_at at (set_busy (record { at = at; busy = b }) es) ≡ b → (x : Bool) → (e.at == at) ≡ x → busy_at at (cond x (record { at = at; busy = b } ∷ es) (e ∷ set_busy (record { at = at; busy = b }) es)) ≡ b
    by_test more true is = ap (λ x. cond x b (busy_at at es)) (eq-eqb at at refl)
    by_test more false is = ap (λ x. cond x e.busy (busy_at at (set_busy (record { at = at; busy = b }) es))) is ∙ more

-- and nowhere else
pub busy_else : (at : ℕ) (b : Busy) (x : ℕ) (ds : List Doing) → (x ≡ at → ⊥) → busy_at x (set_busy (record { at = at; busy = b }) ds) ≡ busy_at x ds
busy_else at b x [] ne = ap (λ y. cond y b (busy_at x [])) (ne_eqb at x (λ e. ne (sym e)))
busy_else at b x (e ∷ es) ne = by_test (busy_else at b x es ne) (e.at == at) refl
  where
    by_test : busy_at x (set_busy (record { at = at; busy = b }) es) ≡ busy_at x es → (y : Bool) → (e.at == at) ≡ y
        → busy_at x (cond y (record { at = at; busy = b } ∷ es) (e ∷ set_busy (record { at = at; busy = b }) es)) ≡ cond (e.at == x) e.busy (busy_at x es)
    by_test more true is =
        let far : (e.at == x) ≡ false = ne_eqb e.at x (λ q. ne (sym q ∙ eqb-true e.at at is)) in
        ap (λ y. cond y b (busy_at x es)) (ne_eqb at x (λ q. ne (sym q))) ∙ sym (ap (λ y. cond y e.busy (busy_at x es)) far)
    by_test more false is = ap (λ y. cond (e.at == x) e.busy y) more

-- what is set last counts
pub busy_twice : (at : ℕ) (a b : Busy) (ds : List Doing) → set_busy (record { at = at; busy = b }) (set_busy (record { at = at; busy = a }) ds) ≡ set_busy (record { at = at; busy = b }) ds
busy_twice at a b [] = ap (λ x. cond x (record { at = at; busy = b } ∷ []) (record { at = at; busy = a } ∷ set_busy (record { at = at; busy = b }) [])) (eq-eqb at at refl)
busy_twice at a b (e ∷ es) = by_test (busy_twice at a b es) (e.at == at) refl
  where
    by_test : set_busy (record { at = at; busy = b }) (set_busy (record { at = at; busy = a }) es) ≡ set_busy (record { at = at; busy = b }) es → (x : Bool) → (e.at == at) ≡ x
        → set_busy (record { at = at; busy = b }) (cond x (record { at = at; busy = a } ∷ es) (e ∷ set_busy (record { at = at; busy = a }) es)) ≡ cond x (record { at = at; busy = b } ∷ es) (e ∷ set_busy (record { at = at; busy = b }) es)
    by_test more true is = ap (λ x. cond x (record { at = at; busy = b } ∷ es) (record { at = at; busy = a } ∷ set_busy (record { at = at; busy = b }) es)) (eq-eqb at at refl)
    by_test more false is = ap (λ x. cond x (record { at = at; busy = b } ∷ set_busy (record { at = at; busy = a }) es) (e ∷ set_busy (record { at = at; busy = b }) (set_busy (record { at = at; busy = a }) es))) is ∙ ap (λ l. e ∷ l) more
