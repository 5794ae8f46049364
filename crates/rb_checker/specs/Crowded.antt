-- The names that were seen, as the check keeps them.
use Rattle.std.specs.Prelude.{◌≡◌, ℕ, ◌-◌, List, length}
use Rattle.rb_tree.specs.declared.span.NameId.{NameId}
use Rattle.rb_checker.specs.declared.crowds.Crowd.{Crowd}
use Rattle.rb_checker.specs.Sets.{Holds}

-- these names were seen, and so many more there may be
pub record IsCrowd (crowd : Crowd) (limit : ℕ) (before : List NameId) : Type 0 where
  pub seen : Holds crowd.seen before
  pub left : crowd.left ≡ limit - length before
