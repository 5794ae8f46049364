use Rattle.std.proofs.Common.{rules, to_z, of_z, w64, ◌≡◌, [], ◌∷◌, map, refl, ap, ◌∙◌}
use Rattle.rb_model.specs.Values.{plain}
use Rattle.rb_walk.proofs.Singles.{single}
use Rattle.rb_walk.proofs.slots.only_integer.Goals as goal

pub returns-in-Int : goal.returns-in-Int
returns-in-Int c =
    let z : to_z w64 (of_z w64 c.in-Int.n) ≡ c.in-Int.n = search rules in
    rw z (ap (map plain) (single _ _ _ refl c.in-len1.len_at_least c.in-len1.len_below c.only-item.is) ∙ ap (λ v. plain v ∷ []) c.in-Int.is)
