-- Where a text stands, as the check keeps it.
use Rattle.std.specs.Prelude.{◌≡◌, true, false, [], MatchOption}
use Rattle.rb_checker.specs.Rules as rule
use Rattle.rb_checker.specs.Sets.{Holds}
use Rattle.rb_checker.specs.declared.rules.Owner.{Owner}

pub record IsOwner (owner : Owner) (o : rule.Owner) : Type 0 where
  pub methods : MatchOption owner.methods ((o.methods ≡ []) × (o.in_class ≡ false)) (λ set. Holds set.now o.methods × (o.in_class ≡ true))
  pub in_method : owner.in_method ≡ o.in_method
