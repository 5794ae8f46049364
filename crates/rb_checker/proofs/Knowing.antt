-- Locals, and which are the same.
use Rattle.std.proofs.Common.{◌≡◌, ℕ, Option, Some, None, refl, ap, ◌∙◌, arith}
use Rattle.std.specs.Prelude.{◌==◌, ◌&&◌}
use Rattle.std.proofs.lemmas.Bool.Decides.{nat_tests}
use Rattle.rb_checker.specs.declared.locals.Local.{Local}
use Rattle.rb_checker.specs.Locals.{same_scope, same_local}

pub swapped : (m n : ℕ) → (m == n) ≡ (n == m)
swapped m n = grind (arith, nat_tests)

same_scope_swapped : (a b : Option ℕ) → same_scope a b ≡ same_scope b a
same_scope_swapped None None = refl
same_scope_swapped None (Some b) = refl
same_scope_swapped (Some a) None = refl
same_scope_swapped (Some a) (Some b) = swapped a b

pub same_local_swapped : (a b : Local) → same_local a b ≡ same_local b a
same_local_swapped a b = ap (λ t. t && same_scope a.scope b.scope) (swapped a.name b.name) ∙ ap (λ t. (b.name == a.name) && t) (same_scope_swapped a.scope b.scope)
