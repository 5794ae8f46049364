-- Which operators are of a tier, or of a tighter one.
use Rattle.std.proofs.Common.{◌≡◌, Bool, true, false, not, ◌||◌, List, [], ◌∷◌, refl}
use Rattle.rb_lexer.specs.declared.token.Token.{Token}
use Rattle.rb_grammar.specs.Look.{Class, Test, class_of, one_of}
use Rattle.rb_grammar.specs.Phrase as p
use Rattle.rb_grammar.specs.Rule.{next_meets}
use Rattle.rb_grammar.specs.Heads.{next_class}
use Rattle.rb_grammar.specs.Grammar.{operators, tighter}
use Rattle.rb_grammar.proofs.Looks.{every}
use Rattle.rb_steps.specs.Tier.{is_within}

-- no token counts as the end, which is no operator
pub within_next : (tier : p.Tier) (ts : List Token) → is_within tier (next_class ts) true ≡ next_meets (is_within tier) ts
within_next tier [] = refl
within_next tier (t ∷ ts) = refl

-- what is no operator of a tier or a tighter one is none of the tier
none_here : (tier : p.Tier) (class : Class) (spaced : Bool) → (is_within tier class spaced || not (one_of (operators tier) class spaced)) ≡ true
none_here p.or_tier = every _ refl
none_here p.and_tier = every _ refl
none_here p.equal_tier = every _ refl
none_here p.less_tier = every _ refl
none_here p.shift_tier = every _ refl
none_here p.sum_tier = every _ refl
none_here p.product_tier = every _ refl
none_here p.unary_tier = every _ refl

-- nor one of the next tighter tier or of one that is tighter yet
none_tighter : (tier : p.Tier) (class : Class) (spaced : Bool) → (is_within tier class spaced || not (is_within (tighter tier) class spaced)) ≡ true
none_tighter p.or_tier = every _ refl
none_tighter p.and_tier = every _ refl
none_tighter p.equal_tier = every _ refl
none_tighter p.less_tier = every _ refl
none_tighter p.shift_tier = every _ refl
none_tighter p.sum_tier = every _ refl
none_tighter p.product_tier = every _ refl
none_tighter p.unary_tier = every _ refl

denied : (a b : Bool) → (a || not b) ≡ true → a ≡ false → b ≡ false
denied false false h none = refl
denied false true h none = let no : false ≡ true = h in absurd (cc)
denied true b h none = let no : true ≡ false = none in absurd (cc)

next_denied : (test other : Test) → ((class : Class) (spaced : Bool) → (test class spaced || not (other class spaced)) ≡ true)
    → (ts : List Token) → next_meets test ts ≡ false → next_meets other ts ≡ false
next_denied test other h [] none = refl
next_denied test other h (t ∷ ts) none = denied (test (class_of t.kind) t.spaced) (other (class_of t.kind) t.spaced) (h (class_of t.kind) t.spaced) none

pub none_of_tier : (tier : p.Tier) (ts : List Token) → next_meets (is_within tier) ts ≡ false → next_meets (one_of (operators tier)) ts ≡ false
none_of_tier tier = next_denied (is_within tier) (one_of (operators tier)) (none_here tier)

pub none_of_tighter : (tier : p.Tier) (ts : List Token) → next_meets (is_within tier) ts ≡ false → next_meets (is_within (tighter tier)) ts ≡ false
none_of_tighter tier = next_denied (is_within tier) (is_within (tighter tier)) (none_tighter tier)
