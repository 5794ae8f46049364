-- Lists of one.
use Rattle.std.proofs.Common.{◌≡◌, ◌≤◌, ◌<◌, List, [], ◌∷◌, length, sym, ap, ◌∙◌, arith}
use Rattle.std.specs.Prelude.{slice_index_or}

-- a list of one is its first
pub single : {A : Type 0} (xs ys : List A) (x : A) → ys ≡ xs → 1 ≤ length ys → length ys < 2 → x ≡ slice_index_or ys 0 x → xs ≡ x ∷ []
single xs [] x e p q f = absurd (omega (arith, p))
single xs (y ∷ []) x e p q f = sym e ∙ ap (λ z. z ∷ []) (sym f)
single xs (y ∷ z ∷ zs) x e p q f = absurd (omega (arith, q))
