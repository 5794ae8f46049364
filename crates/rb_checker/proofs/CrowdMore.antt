-- Variables that are too many, one use more behind others.
use Rattle.std.proofs.Common.{◌≡◌, ℕ, Bool, true, false, cond, List, [], ◌∷◌, ◌++◌, length, Option, refl, sym, ap, ◌∙◌, append_assoc}
use Rattle.std.specs.Prelude.{nat_le, if◌then◌else◌}
use Rattle.rb_tree.specs.declared.span.NameId.{NameId}
use Rattle.rb_checker.specs.declared.fault.CheckFault.{CheckFault}
use Rattle.rb_checker.specs.declared.fault.CheckFault.TheVariants as fault
use Rattle.rb_checker.specs.Crowd.{Uses, crowded_behind, crowded, seen_behind}
use Rattle.rb_checker.specs.Fault.{first_of, first_of_two}
use Rattle.rb_checker.specs.Names.{is_among}
use Rattle.rb_checker.proofs.Firsts.{first_of-append}

pub seen_behind-append : (before : List NameId) (us vs : Uses) → seen_behind before (us ++ vs) ≡ seen_behind (seen_behind before us) vs
seen_behind-append before [] vs = refl
seen_behind-append before (u ∷ us) vs = by (is_among u.0 before) (seen_behind-append before us vs) (seen_behind-append (u.0 ∷ before) us vs)
  where
    by : (there : Bool) → seen_behind before (us ++ vs) ≡ seen_behind (seen_behind before us) vs → seen_behind (u.0 ∷ before) (us ++ vs) ≡ seen_behind (seen_behind (u.0 ∷ before) us) vs
        → cond there (seen_behind before (us ++ vs)) (seen_behind (u.0 ∷ before) (us ++ vs)) ≡ seen_behind (cond there (seen_behind before us) (seen_behind (u.0 ∷ before) us)) vs
    by true old new = old
    by false old new = new

crowded_behind-append : (limit : ℕ) (before : List NameId) (us vs : Uses) → crowded_behind limit before (us ++ vs) ≡ crowded_behind limit before us ++ crowded_behind limit (seen_behind before us) vs
crowded_behind-append limit before [] vs = refl
crowded_behind-append limit before (u ∷ us) vs = by (is_among u.0 before) (crowded_behind-append limit before us vs) (crowded_behind-append limit (u.0 ∷ before) us vs)
  where
    here : List CheckFault
    here = if nat_le limit (length before) then fault.TooManyFields u.1 ∷ [] else []

    by : (there : Bool) → crowded_behind limit before (us ++ vs) ≡ crowded_behind limit before us ++ crowded_behind limit (seen_behind before us) vs
        → crowded_behind limit (u.0 ∷ before) (us ++ vs) ≡ crowded_behind limit (u.0 ∷ before) us ++ crowded_behind limit (seen_behind (u.0 ∷ before) us) vs
        → cond there (crowded_behind limit before (us ++ vs)) (here ++ crowded_behind limit (u.0 ∷ before) (us ++ vs))
        ≡ cond there (crowded_behind limit before us) (here ++ crowded_behind limit (u.0 ∷ before) us) ++ crowded_behind limit (cond there (seen_behind before us) (seen_behind (u.0 ∷ before) us)) vs
    by true old new = old
    by false old new = ap (λ es. here ++ es) new ∙ sym (append_assoc here (crowded_behind limit (u.0 ∷ before) us) (crowded_behind limit (seen_behind (u.0 ∷ before) us) vs))

-- the first of them, with more uses behind
pub first_crowded : (limit : ℕ) (uses more behind : Uses) (found next new : Option CheckFault) → more ≡ uses ++ behind → found ≡ first_of (crowded limit uses)
    → next ≡ first_of (crowded_behind limit (seen_behind [] uses) behind) → new ≡ first_of_two found next → new ≡ first_of (crowded limit more)
first_crowded limit uses more behind found next new is f n h =
    h ∙ ap (λ o. first_of_two o next) f ∙ ap (first_of_two (first_of (crowded limit uses))) n
    ∙ sym (first_of-append (crowded limit uses) (crowded_behind limit (seen_behind [] uses) behind))
    ∙ sym (ap first_of (ap (crowded limit) is ∙ crowded_behind-append limit [] uses behind))
