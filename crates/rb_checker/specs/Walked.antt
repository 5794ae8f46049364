-- A walk through the events of a text, as the check keeps it.
use Rattle.std.specs.Prelude.{◌≡◌, Bool, List, [], ◌∷◌, Option, Some, None, reverse}
use Rattle.std.specs.List.{list_any}
use Rattle.std.specs.HashSet.{HashSet, contains_by}
use Rattle.std.specs.declared.hash.FoldHasher.{FoldHasher}
use Rattle.std.specs.declared.hash.BuildHasherDefault.{BuildHasherDefault}
use Rattle.rb_tree.specs.declared.span.Span.{Span}
use Rattle.rb_checker.specs.declared.event.Event.{Event}
use Rattle.rb_checker.specs.declared.locals.Local.{Local}
use Rattle.rb_checker.specs.declared.locals.Usage.TheVariants as usage
use Rattle.rb_checker.specs.declared.locals.Used.{Used}
use Rattle.rb_checker.specs.declared.walking.Walk.{Walk}
use Rattle.rb_checker.specs.Around.{Open, behind_all, placed}
use Rattle.rb_checker.specs.Locals.{Use, same_local, use_of, known_behind}

-- sets of locals
abbrev pub Locals : Type 0
Locals = HashSet Local (BuildHasherDefault FoldHasher)

-- whether a local is in a set
abbrev pub is_known : Locals → Local → Bool
is_known set v = contains_by (λ (k : Local). same_local v k) set

-- the set has just these locals
abbrev pub Knows : Locals → List Local → Type 0
Knows set known = (v : Local) → is_known set v ≡ list_any (same_local v) known

-- a use at a place, with what stands round it
abbrev pub uses_as : Option Used → Open → Span → List Use
uses_as None round at = []
uses_as (Some u) round at = (record { usage = u.usage; local = u.local; at = at; round = round }) ∷ []

-- a parameter at a place
abbrev pub params_as : Option Local → Open → Span → List Use
params_as None round at = []
params_as (Some local) round at = (record { usage = usage.Param; local = local; at = at; round = round }) ∷ []

-- the locals that are known behind a text
abbrev pub known_after : List Local → List (Open × Event) → List Local
known_after known [] = known
known_after known (p ∷ more) = known_after (known_behind known (use_of known p.0 p.1.sight p.1.at)) more

-- a walk stands behind these events
pub record Walked (walk : Walk) (events : List Event) : Type 0 where
  pub round : reverse walk.round.items ≡ behind_all [] events
  pub known : Knows walk.known (known_after [] (placed [] events))
