-- The fault that counts, of faults one behind the other.
use Rattle.std.proofs.Common.{◌≡◌, ℕ, Bool, true, false, cond, List, [], ◌∷◌, ◌++◌, Option, Some, None, refl, sym, ap, ◌∙◌, arith, append-nil}
use Rattle.std.specs.Prelude.{nat_lt, ◌==◌, ◌||◌, ◌&&◌}
use Rattle.std.specs.List.{flat_map}
use Rattle.std.proofs.lemmas.Grind.{flat_map-append}
use Rattle.std.proofs.lemmas.Bool.Decides.{nat_tests}
use Rattle.rb_checker.specs.declared.fault.CheckFault.{CheckFault}
use Rattle.rb_checker.specs.Fault.{place_of, number_of, is_before, first_of_two, first_of}

none_behind : (o : Option CheckFault) → first_of_two o None ≡ o
none_behind None = refl
none_behind (Some e) = refl

-- one that is before a second one, which is before a third
before_both : (p q r k l m : ℕ) → (nat_lt q p || (q == p) && nat_lt l k) ≡ true → (nat_lt r q || (r == q) && nat_lt m l) ≡ true → (nat_lt r p || (r == p) && nat_lt m k) ≡ true
before_both p q r k l m h i = grind (arith, nat_tests, h, i)

-- one that is not before a second one, which is not before a third
before_none : (p q r k l m : ℕ) → (nat_lt q p || (q == p) && nat_lt l k) ≡ false → (nat_lt r q || (r == q) && nat_lt m l) ≡ false → (nat_lt r p || (r == p) && nat_lt m k) ≡ false
before_none p q r k l m h i = grind (arith, nat_tests, h, i)

-- of three faults, it does not matter which two are compared first
of_three : (d e f : CheckFault) → first_of_two (first_of_two (Some d) (Some e)) (Some f) ≡ first_of_two (Some d) (first_of_two (Some e) (Some f))
of_three d e f = by (is_before e d) (is_before f e) refl refl
  where
    by : (ed fe : Bool) → is_before e d ≡ ed → is_before f e ≡ fe
        → first_of_two (cond ed (Some e) (Some d)) (Some f) ≡ first_of_two (Some d) (cond fe (Some f) (Some e))
    by true true h k =
        let l : is_before f d ≡ true = before_both (place_of d) (place_of e) (place_of f) (number_of d) (number_of e) (number_of f) h k in
        ap (λ b. cond b (Some f) (Some e)) k ∙ sym (ap (λ b. cond b (Some f) (Some d)) l)
    by true false h k = ap (λ b. cond b (Some f) (Some e)) k ∙ sym (ap (λ b. cond b (Some e) (Some d)) h)
    by false true h k = refl
    by false false h k =
        let l : is_before f d ≡ false = before_none (place_of d) (place_of e) (place_of f) (number_of d) (number_of e) (number_of f) h k in
        ap (λ b. cond b (Some f) (Some d)) l ∙ sym (ap (λ b. cond b (Some e) (Some d)) h)

pub of_two_associates : (o p q : Option CheckFault) → first_of_two (first_of_two o p) q ≡ first_of_two o (first_of_two p q)
of_two_associates None p q = refl
of_two_associates (Some d) None q = refl
of_two_associates (Some d) (Some e) None = none_behind (first_of_two (Some d) (Some e))
of_two_associates (Some d) (Some e) (Some f) = of_three d e f

pub first_of-append : (xs ys : List CheckFault) → first_of (xs ++ ys) ≡ first_of_two (first_of xs) (first_of ys)
first_of-append [] ys = refl
first_of-append (x ∷ xs) ys = ap (first_of_two (Some x)) (first_of-append xs ys) ∙ sym (of_two_associates (Some x) (first_of xs) (first_of ys))

-- the fault that counts of two lists of faults
pub first_of_both : (xs ys all : List CheckFault) (a b c : Option CheckFault) → all ≡ xs ++ ys → a ≡ first_of xs → b ≡ first_of ys → c ≡ first_of_two a b → c ≡ first_of all
first_of_both xs ys all a b c is x y h =
    h ∙ ap (λ o. first_of_two o b) x ∙ ap (first_of_two (first_of xs)) y ∙ sym (first_of-append xs ys) ∙ sym (ap first_of is)

-- the fault that counts of lists of faults, one behind the other
pub first_of_more : {A : Type 0} (f : A → List CheckFault) (xs more : List A) (x : A) (found next : Option CheckFault) → more ≡ xs ++ x ∷ []
    → found ≡ first_of (flat_map f xs) → next ≡ first_of (f x) → first_of_two found next ≡ first_of (flat_map f more)
first_of_more f xs more x found next e h n =
    ap (λ o. first_of_two o next) h ∙ ap (first_of_two (first_of (flat_map f xs))) (n ∙ ap first_of (sym (append-nil (f x))))
    ∙ sym (first_of-append (flat_map f xs) (f x ++ []))
    ∙ sym (ap first_of (ap (flat_map f) e ∙ flat_map-append f xs (x ∷ [])))

-- of three lists of faults
pub first_of_three : (xs ys zs : List CheckFault) (a b c d e : Option CheckFault) → a ≡ first_of xs → b ≡ first_of ys → c ≡ first_of zs
    → d ≡ first_of_two b c → e ≡ first_of_two a d → e ≡ first_of (xs ++ (ys ++ zs))
first_of_three xs ys zs a b c d e x y z k h =
    h ∙ ap (λ o. first_of_two o d) x ∙ ap (first_of_two (first_of xs)) (k ∙ ap (λ o. first_of_two o c) y ∙ ap (first_of_two (first_of ys)) z ∙ sym (first_of-append ys zs))
    ∙ sym (first_of-append xs (ys ++ zs))
