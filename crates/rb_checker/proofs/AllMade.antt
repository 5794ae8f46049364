-- Where a text breaks no rule, each class is found of which it makes objects.
use Rattle.std.proofs.Common.{◌≡◌, refl, Bool, true, false, List, [], ◌∷◌, ◌++◌}
use Rattle.std.specs.List.{flat_map}
use Rattle.rb_tree.specs.declared.span.Span.{Span}
use Rattle.rb_tree.specs.declared.span.NameId.{NameId}
use Rattle.rb_checker.specs.declared.event.Event.{Event}
use Rattle.rb_checker.specs.declared.event.Sight.{Sight}
use Rattle.rb_checker.specs.declared.event.Sight.TheVariants as sight
use Rattle.rb_checker.specs.declared.fault.CheckFault.{CheckFault}
use Rattle.rb_checker.specs.Around.{Open, placed, behind}
use Rattle.rb_checker.specs.Names.{Text}
use Rattle.rb_checker.specs.Rules.{Owner, unless, finds_class, broken_by, broken}

-- what the rules of names see of a text
abbrev pub Events : Type 0
Events = List Event

-- of two lists that are empty together, each is
pub left_empty : {A : Type 0} (xs ys : List A) → xs ++ ys ≡ [] → xs ≡ []
left_empty [] ys e = refl
left_empty (x ∷ xs) ys e = absurd (cc)

pub right_empty : {A : Type 0} (xs ys : List A) → xs ++ ys ≡ [] → ys ≡ []
right_empty [] ys e = e
right_empty (x ∷ xs) ys e = absurd (cc)

-- a rule that breaks nothing holds
holds_unless : (holds : Bool) (e : CheckFault) → unless holds e ≡ [] → holds ≡ true
holds_unless true e h = refl
holds_unless false e h = absurd (cc)

-- The names of the script, its top-level methods and its classes are given.
module _ (names : List Text) (functions classes : List NameId) where
  -- where an object is made, its class is found
  abbrev IsFound : Sight → Type 0
  IsFound (sight.Makes class) = finds_class names functions classes class ≡ true
  IsFound other = Unit {0}

  -- each class of which objects are made is one of the script's, or built in
  abbrev pub AllFound : Events → Type 0
  AllFound [] = Unit {0}
  AllFound (e ∷ more) = IsFound e.sight × AllFound more

  found_here : (owner : Owner) (round : Open) (s : Sight) (at : Span) → broken_by names functions classes owner round s at ≡ [] → IsFound s
  found_here owner round (sight.Makes class) at e = holds_unless (finds_class names functions classes class) _ e
  found_here owner round other at e = tt

  found_behind : (owner : Owner) (round : Open) (events : Events)
      → flat_map (λ (p : Open × Event). broken_by names functions classes owner p.0 p.1.sight p.1.at) (placed round events) ≡ [] → AllFound events
  found_behind owner round [] e = tt
  found_behind owner round (x ∷ more) e =
      let first = broken_by names functions classes owner round x.sight x.at in
      let rest = flat_map (λ (p : Open × Event). broken_by names functions classes owner p.0 p.1.sight p.1.at) (placed (behind round x.sight x.at) more) in
      (found_here owner round x.sight x.at (left_empty first rest e), found_behind owner (behind round x.sight x.at) more (right_empty first rest e))

  -- a text that breaks no rule
  pub all_found : (owner : Owner) (events : Events) → broken names functions classes owner events ≡ [] → AllFound events
  all_found owner events e = found_behind owner [] events e

  -- two texts, one behind the other
  pub found_left : (xs ys : Events) → AllFound (xs ++ ys) → AllFound xs
  found_left [] ys f = tt
  found_left (x ∷ xs) ys f = (f.0, found_left xs ys f.1)

  pub found_right : (xs ys : Events) → AllFound (xs ++ ys) → AllFound ys
  found_right [] ys f = f
  found_right (x ∷ xs) ys f = found_right xs ys f.1
