-- Lists that are empty.
use Rattle.std.proofs.Common.{◌≡◌, suc, ◌==◌, true, false, List, [], ◌∷◌, length, refl, arith, ◌∙◌}
use Rattle.std.proofs.lemmas.Bool.Decides.{nat_tests}

-- a list whose length is zero
pub is_nothing : {A : Type 0} (xs : List A) → true ≡ (length xs == 0) → xs ≡ []
is_nothing [] e = refl
is_nothing (x ∷ xs) e =
    let some : (suc (length xs) == 0) ≡ false = grind (arith, nat_tests) in
    absurd (let wrong : true ≡ false = e ∙ some in cc)
