-- Division of integers, rounded toward minus infinity.
use Rattle.std.proofs.Common.{◌≡◌, ◌<◌, ◌≤◌, ◌⊎◌, inl, inr, ℕ, zero, suc, ◌+◌, ◌-◌, ◌*◌, ◌/◌, ◌%◌, Bool, true, false, cond, refl, sym, ap, ◌∙◌, arith, ℤ, pos, negsuc, ◌+ℤ◌, ◌-ℤ◌, ◌*ℤ◌, unsigned_abs, div-add-mod', mod-lt}
use borrow.Author.Differences.{up, down, neg_is, same_in}
use Rattle.std.proofs.lemmas.Bool.{cases_order}
use Rattle.std.proofs.Math.Nat.{mul-le-mul_left}
use Rattle.std.specs.Prelude.{int_lt, not, ◌&&◌}
use Rattle.std.specs.Ordering.{int_eq}
use Rattle.std.specs.Int.{int_div_euclid, int_rem_euclid}
use Rattle.std.proofs.Math.IntN.{*ℤ_comm, pred_ℤ-*ℤ, -ℤ_one}
use Rattle.std.proofs.lemmas.Int.{ints}
use Rattle.rb_model.specs.declared.fault.Fault.TheVariants.{ZeroDivision}
use Rattle.rb_machine.specs.Methods.{integer, Raises, quotient, modulo, leaves_below}
use Rattle.rb_machine.specs.Laws.{IsRestBy, DividesBack, RestsAreSmall, DividesOneWay, DivisionsAnswer}

-- the quotient whose remainder is never negative
euclid : (m n : ℤ) → (n ≡ pos 0 → ⊥) → m ≡ n *ℤ int_div_euclid m n +ℤ int_rem_euclid m n
euclid m (pos zero) h = absurd (h refl)
euclid (pos a) (pos (suc b)) h = omega (arith, ints, div-add-mod' a (suc b))
euclid (pos a) (negsuc b) h =
    let negated = neg_is (pos (a / suc b)) in
    omega (arith, ints, div-add-mod' a (suc b), ap (λ x. suc b * x) negated.0, ap (λ x. suc b * x) negated.1)
euclid (negsuc a) (pos (suc b)) h = omega (arith, ints, div-add-mod' a (suc b))
euclid (negsuc a) (negsuc b) h = omega (arith, ints, div-add-mod' a (suc b))

euclid_rest : (m n : ℤ) → (n ≡ pos 0 → ⊥) → (r : ℕ) × (int_rem_euclid m n ≡ pos r) × (r < unsigned_abs n)
euclid_rest m (pos zero) h = absurd (h refl)
euclid_rest (pos a) (pos (suc b)) h = (a % suc b, refl, mod-lt a (omega arith))
euclid_rest (pos a) (negsuc b) h = (a % suc b, refl, mod-lt a (omega arith))
euclid_rest (negsuc a) (pos (suc b)) h = (suc b - 1 - a % suc b, refl, omega arith)
euclid_rest (negsuc a) (negsuc b) h = (suc b - 1 - a % suc b, refl, omega arith)

one_less : (n q : ℤ) → n *ℤ (q -ℤ pos 1) ≡ n *ℤ q -ℤ n
one_less n q = ap (λ p. n *ℤ p) (-ℤ_one q) ∙ (*ℤ_comm n _ ∙ (pred_ℤ-*ℤ q n ∙ ap (λ p. p -ℤ n) (*ℤ_comm q n)))

cancels : (p n r : ℤ) → p +ℤ r ≡ (p -ℤ n) +ℤ (r +ℤ n)
cancels p n r = omega (arith, ints)

-- a quotient that is one less leaves the divisor more
divided_if : (b : Bool) (m n q r : ℤ) → m ≡ n *ℤ q +ℤ r → m ≡ n *ℤ cond b (q -ℤ pos 1) q +ℤ cond b (r +ℤ n) r
divided_if false m n q r e = e
divided_if true m n q r e = e ∙ (cancels (n *ℤ q) n r ∙ ap (λ p. p +ℤ (r +ℤ n)) (sym (one_less n q)))

pub divides_back : DividesBack
divides_back m n h = divided_if (leaves_below m n) m n (int_div_euclid m n) (int_rem_euclid m n) (euclid m n h)

not_below : (b : ℕ) → int_lt (pos b) (pos 0) ≡ false
not_below b = grind (arith, ints)

not_zero : (r : ℕ) → int_eq (pos (suc r)) (pos 0) ≡ false
not_zero r = grind (arith, ints)

-- where the divisor is positive, the rest stays
rest_above : (below leaves : Bool) (b r : ℕ) (rest : ℤ) → below ≡ false → rest ≡ pos r → r < b → IsRestBy (pos b) (cond (below && leaves) (rest +ℤ pos b) rest)
rest_above true leaves b r rest f e h = absurd (cc)
rest_above false leaves b r rest f e h = (omega (arith, ints), omega (arith, ints))

-- where it is negative, it is added to a rest that is not 0
rest_below : (is_zero : Bool) (b r : ℕ) (rest : ℤ) → int_eq (pos r) (pos 0) ≡ is_zero → rest ≡ pos r → r < suc b → IsRestBy (negsuc b) (cond (not is_zero) (rest +ℤ negsuc b) rest)
rest_below true b zero rest z e h = (omega (arith, ints), omega (arith, ints))
rest_below true b (suc r) rest z e h = let wrong : true ≡ false = sym z ∙ not_zero r in absurd (cc)
rest_below false b zero rest z e h = absurd (cc)
rest_below false b (suc r) rest z e h = (omega (arith, ints), omega (arith, ints))

pub rests_are_small : RestsAreSmall
rests_are_small m (pos zero) h = absurd (h refl)
rests_are_small m (pos (suc b)) h =
    let r = euclid_rest m (pos (suc b)) h in rest_above (int_lt (pos (suc b)) (pos 0)) _ (suc b) r.0 _ (not_below (suc b)) r.1 r.2
rests_are_small m (negsuc b) h =
    let r = euclid_rest m (negsuc b) h in rest_below (int_eq (int_rem_euclid m (negsuc b)) (pos 0)) b r.0 _ (ap (λ x. int_eq x (pos 0)) (sym r.1)) r.1 r.2

not_zero_itself : (n : ℤ) → (n ≡ pos 0 → ⊥) → int_eq n (pos 0) ≡ false
not_zero_itself (pos zero) h = absurd (h refl)
not_zero_itself (pos (suc n)) h = not_zero n
not_zero_itself (negsuc n) h = grind (arith, ints)

pub divisions_answer : DivisionsAnswer
divisions_answer P m n = (
  refl,
  refl,
  λ h. (
    ap (λ t. cond t (Raises ZeroDivision) (integer (quotient m n))) (not_zero_itself n h),
    ap (λ t. cond t (Raises ZeroDivision) (integer (modulo m n))) (not_zero_itself n h),
  ),
)

-- ---- one way

-- a quotient that is greater by one adds the whole divisor
too_far : (size a c x y : ℕ) → a < c → x < size + y → size * a + x ≡ size * c + y → ⊥
too_far size a c x y h small e =
    let grows : size * suc a ≤ size * c = mul-le-mul_left size h in
    omega (arith, grows, small, e)

same_quotient : (size x y : ℕ) (q p : ℤ) → x < size + y → y < size + x → size * (up q + down p) + x ≡ size * (up p + down q) + y → q ≡ p
same_quotient size x y q p h k e = at (cases_order (up q + down p) (up p + down q))
  where
    at : (up q + down p ≡ up p + down q) ⊎ ((up q + down p < up p + down q) ⊎ (up p + down q < up q + down p)) → q ≡ p
    at (inl same) = same_in q p same
    at (inr (inl less)) = absurd (too_far size _ _ x y less h e)
    at (inr (inr more)) = absurd (too_far size _ _ y x more k (sym e))

-- two ways to divide have one quotient
one_quotient : (n q p r s : ℤ) → (n ≡ pos 0 → ⊥) → n *ℤ q +ℤ r ≡ n *ℤ p +ℤ s → IsRestBy n r → IsRestBy n s → q ≡ p
one_quotient (pos zero) q p r s some e h k = absurd (some refl)
one_quotient (pos (suc b)) q p (pos x) (pos y) some e h k =
    same_quotient (suc b) x y q p (omega (arith, ints, h.1)) (omega (arith, ints, k.1)) (omega (arith, ints))
one_quotient (pos (suc b)) q p (negsuc x) s some e h k = absurd (omega (arith, ints, h.0))
one_quotient (pos (suc b)) q p r (negsuc y) some e h k = absurd (omega (arith, ints, k.0))
one_quotient (negsuc b) q p r s some e h k =
    same_quotient (suc b) (up s + down r) (up r + down s) q p (omega (arith, ints)) (omega (arith, ints)) (omega (arith, ints))

same_rest : (p r s : ℤ) → p +ℤ r ≡ p +ℤ s → r ≡ s
same_rest p r s e = omega (arith, ints)

pub divides_one_way : DividesOneWay
divides_one_way m n q rest some e small =
    let both : n *ℤ q +ℤ rest ≡ n *ℤ quotient m n +ℤ modulo m n = sym e ∙ divides_back m n some in
    let same = one_quotient n q (quotient m n) rest (modulo m n) some both small (rests_are_small m n some) in
    (same, same_rest (n *ℤ q) rest (modulo m n) (both ∙ ap (λ x. n *ℤ x +ℤ modulo m n) (sym same)))
