-- The tiers of operators, as the grammar has them.
use Rattle.std.specs.Prelude.{ℕ, Bool, true, false, ◌&&◌, nat_le, nat_lt}
use Rattle.rb_grammar.specs.Look.{Class, Test}
use Rattle.rb_grammar.specs.Look as c
use Rattle.rb_grammar.specs.Phrase as p
use Rattle.rb_steps.specs.declared.operator.Tier.{Tier}
use Rattle.rb_steps.specs.declared.operator.Tier.TheVariants as tier

abbrev pub tier_by : Tier → p.Tier
tier_by tier.Or = p.or_tier
tier_by tier.And = p.and_tier
tier_by tier.Equal = p.equal_tier
tier_by tier.Less = p.less_tier
tier_by tier.Shift = p.shift_tier
tier_by tier.Sum = p.sum_tier
tier_by tier.Product = p.product_tier
tier_by tier.Unary = p.unary_tier

-- how many tiers are tighter
abbrev pub rank : p.Tier → ℕ
rank p.or_tier = 7
rank p.and_tier = 6
rank p.equal_tier = 5
rank p.less_tier = 4
rank p.shift_tier = 3
rank p.sum_tier = 2
rank p.product_tier = 1
rank p.unary_tier = 0

abbrev pub rank_of : Tier → ℕ
rank_of tier.Or = 7
rank_of tier.And = 6
rank_of tier.Equal = 5
rank_of tier.Less = 4
rank_of tier.Shift = 3
rank_of tier.Sum = 2
rank_of tier.Product = 1
rank_of tier.Unary = 0

-- the tier of the operators of a class; what is no operator has the tightest
abbrev pub tier_of : Class → p.Tier
tier_of c.or_or = p.or_tier
tier_of c.and_and = p.and_tier
tier_of c.equal = p.equal_tier
tier_of c.not_equal = p.equal_tier
tier_of c.less = p.less_tier
tier_of c.less_equal = p.less_tier
tier_of c.greater = p.less_tier
tier_of c.greater_equal = p.less_tier
tier_of c.shift_left = p.shift_tier
tier_of c.plus = p.sum_tier
tier_of c.minus = p.sum_tier
tier_of c.times = p.product_tier
tier_of c.over = p.product_tier
tier_of c.modulo = p.product_tier
tier_of other = p.unary_tier

-- the operators of a tier and of all tighter ones
abbrev pub is_within : p.Tier → Test
is_within tier class spaced = nat_lt 0 (rank (tier_of class)) && nat_le (rank (tier_of class)) (rank tier)

-- whether a tier has no operators
abbrev pub is_unary : p.Tier → Bool
is_unary p.unary_tier = true
is_unary other = false

-- whether no second operator of the tier follows one
abbrev pub joins_once : p.Tier → Bool
joins_once p.equal_tier = true
joins_once other = false
