-- Sets of names, one more behind others.
use Rattle.std.proofs.Common.{◌≡◌, Bool, true, false, List, [], ◌∷◌, ◌++◌, refl, sym, ap, ◌∙◌}
use Rattle.std.specs.Prelude.{◌||◌, ◌==◌, nat_eq}
use Rattle.std.specs.HashSet.{contains}
use Rattle.std.proofs.lemmas.List.Folds.{list_any-append}
use Rattle.rb_tree.specs.declared.span.NameId.{NameId}
use Rattle.rb_checker.specs.Names.{is_among}
use Rattle.rb_checker.specs.Sets.{Numbers, Holds}

swapped : (a b : Bool) → (a || b) ≡ (b || (a || false))
swapped true true = refl
swapped true false = refl
swapped false true = refl
swapped false false = refl

pub one_more : (names more : List NameId) (name : NameId) (set new : Numbers) → more ≡ names ++ name ∷ [] → Holds set names
    → ((other : NameId) → contains nat_eq new other.0 ≡ (name.0 == other.0 || contains nat_eq set other.0)) → Holds new more
one_more names more name set new e h added = λ other.
    added other ∙ ap (λ b. name.0 == other.0 || b) (h other) ∙ swapped (name.0 == other.0) (is_among other names)
    ∙ sym (list_any-append (λ (n : NameId). n.0 == other.0) names (name ∷ [])) ∙ ap (is_among other) (sym e)
