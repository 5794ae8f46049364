-- Names and bodies, one behind the other.
use Rattle.std.proofs.Common.{◌≡◌, ℕ, ◌+◌, ◌≤◌, ◌<◌, Bool, true, false, cond, List, [], ◌∷◌, ◌++◌, Option, Some, None, length, take, get_or, refl, sym, ap, ◌∙◌, arith, eqb, not}
use Rattle.std.specs.Prelude.{nat_eq, nat_lt, position}
use Rattle.std.specs.List.{position_or_len, prefix_len}
use Rattle.std.proofs.lemmas.Bool.Decides.{nat_tests}
use Rattle.std.proofs.lemmas.List.{length-append, length-take, take_more}
use Rattle.std.proofs.lemmas.List.Sums.{fold-append}
use Rattle.std.proofs.lemmas.List.Folds.{position_or_len_push}
use Rattle.rb_tree.specs.Texts.{with_text}
use Rattle.rb_grammar.specs.Tree.{Text}
use Rattle.rb_grammar.specs.Program.{in_order}
use Rattle.rb_builder.specs.Numbered.{Bodies, number_at, number_or, AreNumbered}

-- a text that is added behind others
pub in_order-behind : (texts : List Text) (text : Text) → in_order (texts ++ text ∷ []) ≡ with_text (in_order texts) text
in_order-behind texts text = fold-append (λ (names : List Text) (t : Text). with_text names t) [] texts (text ∷ [])

-- a name that is added behind those that tokens gave
pub names_more : (texts more names new : List Text) (text : Text) → more ≡ texts ++ text ∷ [] → names ≡ in_order texts → new ≡ with_text names text → new ≡ in_order more
names_more texts more names new text e n a = a ∙ ap (λ x. with_text x text) n ∙ sym (in_order-behind texts text) ∙ ap in_order (sym e)

front_short : (p : ℕ → Bool) (xs : List ℕ) → position_or_len p xs ≤ length xs
front_short p [] = omega arith
front_short p (x ∷ xs) = by (p x) (front_short p xs)
  where
    by : (b : Bool) → position_or_len p xs ≤ length xs → cond (not b) (1 + position_or_len p xs) 0 ≤ length (x ∷ xs)
    by true h = omega arith
    by false h = omega (arith, h)

next_number : (q n : ℕ) (b : Bool) → q ≤ n
    → number_or (cond (nat_lt q n) (Some q) None) b n
    ≡ cond (nat_lt (cond (eqb q n) (n + cond b 0 1) q) (n + 1)) (Some (cond (eqb q n) (n + cond b 0 1) q)) None
next_number q n b h = by (nat_lt q n) (eqb q n) b refl refl
  where
    by : (l e here : Bool) → nat_lt q n ≡ l → eqb q n ≡ e
        → number_or (cond l (Some q) None) here n ≡ cond (nat_lt (cond e (n + cond here 0 1) q) (n + 1)) (Some (cond e (n + cond here 0 1) q)) None
    by true true here f g = absurd (grind (arith, nat_tests))
    by true false here f g = let lt : nat_lt q (n + 1) ≡ true = grind (arith, nat_tests) in sym (ap (λ x. cond x (Some q) None) lt)
    by false true true f g = let lt : nat_lt (n + 0) (n + 1) ≡ true = grind (arith, nat_tests) in ap Some (omega arith) ∙ sym (ap (λ x. cond x (Some (n + 0)) None) lt)
    by false true false f g = let lt : nat_lt (n + 1) (n + 1) ≡ false = grind (arith, nat_tests) in sym (ap (λ x. cond x (Some (n + 1)) None) lt)
    by false false here f g = absurd (grind (arith, nat_tests, h))

-- the number of a place behind others
pub position-behind : (places : List ℕ) (place at : ℕ)
    → number_or (position (λ p. nat_eq p at) places) (nat_eq place at) (length places) ≡ position (λ p. nat_eq p at) (places ++ place ∷ [])
position-behind places place at =
    let test : ℕ → Bool = λ p. nat_eq p at in
    next_number (position_or_len test places) (length places) (nat_eq place at) (front_short test places)
    ∙ sym (ap (λ x. cond (nat_lt x (length (places ++ place ∷ []))) (Some x) None) (position_or_len_push test places place)
    ∙ ap (λ m. cond (nat_lt (cond (eqb (position_or_len test places) (length places)) (length places + cond (test place) 0 1) (position_or_len test places)) m)
    (Some (cond (eqb (position_or_len test places) (length places)) (length places + cond (test place) 0 1) (position_or_len test places))) None) (length-append places (place ∷ [])))

-- one more place has its number
pub places_more : (places : List ℕ) (i : ℕ) (bodies new : Bodies) → i < length places → AreNumbered (take i places) bodies
    → ((at : ℕ) → number_at new at ≡ number_or (number_at bodies at) (nat_eq (get_or places i 0) at) i) → AreNumbered (take (i + 1) places) new
places_more places i bodies new h is added = λ at.
    let test : ℕ → Bool = λ p. nat_eq p at in
    let long : length (take i places) ≡ i = length-take i places ∙ omega (arith, h) in
    added at ∙ ap (λ x. number_or x (nat_eq (get_or places i 0) at) i) (is at)
    ∙ ap (λ n. number_or (position test (take i places)) (nat_eq (get_or places i 0) at) n) (sym long)
    ∙ position-behind (take i places) (get_or places i 0) at
    ∙ ap (position test) (sym (take_more places i 0 h))
