use Rattle.std.proofs.Common.{◌≡◌, ℕ, List, [], ◌∷◌, length, true, nat_eq, refl, arith}
use Rattle.std.specs.Cmp.{unsigned_Decides}
use Rattle.ordered_pairs.proofs.pairs.OrderedPairs.is_empty.Goals as goal

empty_by : {X : Type 0} (ps : List X) (n : ℕ) → n ≡ length ps → (nat_eq n 0 ≡ true → ps ≡ []) × (ps ≡ [] → nat_eq n 0 ≡ true)
empty_by [] n e = (λ h. refl, λ h. rw e refl)
empty_by (p ∷ ps) n e = (λ h. absurd (let z = (unsigned_Decides n 0).0 h in omega (arith, z, e)), λ h. absurd (cc))

pub returns : goal.returns
returns c = empty_by c.args.self.now c.len.result c.len.ensures.exact
