-- Which local of which scope an event speaks of.
use Rattle.std.specs.Prelude.{ℕ, Bool, true, false, ◌==◌, ◌&&◌, List, [], ◌∷◌, ◌++◌, Option, Some, None, if◌then◌else◌}
use Rattle.std.specs.List.{list_any}
use Rattle.rb_tree.specs.declared.span.Span.{Span}
use Rattle.rb_tree.specs.declared.span.NameId.{NameId}
use Rattle.rb_checker.specs.declared.event.Event.{Event}
use Rattle.rb_checker.specs.declared.event.Sight.{Sight}
use Rattle.rb_checker.specs.declared.event.Sight.TheVariants as sight
use Rattle.rb_checker.specs.declared.event.Around.TheVariants as around
use Rattle.rb_checker.specs.declared.locals.Local.{Local}
use Rattle.rb_checker.specs.declared.locals.Usage.{Usage}
use Rattle.rb_checker.specs.declared.locals.Usage.TheVariants as usage
use Rattle.rb_checker.specs.Around.{Open, placed}

abbrev pub same_scope : Option ℕ → Option ℕ → Bool
same_scope None None = true
same_scope (Some a) (Some b) = a == b
same_scope a b = false

abbrev pub same_local : Local → Local → Bool
same_local a b = a.name == b.name && same_scope a.scope b.scope

-- the scopes that are seen, the innermost first
abbrev pub scopes_of : Open → List (Option ℕ)
scopes_of [] = None ∷ []
scopes_of ((around.Block, at) ∷ outer) = Some at.from ∷ scopes_of outer
scopes_of ((around.Thread, at) ∷ outer) = Some at.from ∷ scopes_of outer
scopes_of (other ∷ outer) = scopes_of outer

-- the innermost of these scopes in which a name is known
abbrev pub known_in : List Local → NameId → List (Option ℕ) → Option Local
known_in known name [] = None
known_in known name (scope ∷ outer) =
    if list_any (same_local (record { name = name.0; scope = scope })) known then Some (record { name = name.0; scope = scope }) else known_in known name outer

abbrev pub innermost : List (Option ℕ) → Option ℕ
innermost [] = None
innermost (scope ∷ outer) = scope

-- a name that is known nowhere becomes a local of the innermost scope
abbrev pub assigned_local : List Local → NameId → Open → Local
assigned_local known name round = elim (known_in known name (scopes_of round)) [
  | None ↦ record { name = name.0; scope = innermost (scopes_of round) }
  | Some local ↦ local
]

-- whether a use gives a value to a local, and whether it is that of a parameter
abbrev pub assigns : Usage → Bool
assigns usage.Read = false
assigns other = true

abbrev pub is_param : Usage → Bool
is_param usage.Param = true
is_param other = false

-- a local where it is assigned or read, and what stands round that
pub record Use : Type 0 where
  pub usage : Usage
  pub local : Local
  pub at : Span
  pub round : Open

-- what an event says of a local, by those that are known
abbrev pub use_of : List Local → Open → Sight → Span → List Use
use_of known round (sight.Assigns name) at = (record { usage = usage.Assigned; local = assigned_local known name round; at = at; round = round }) ∷ []
use_of known round (sight.Param name) at = (record { usage = usage.Param; local = record { name = name.0; scope = innermost (scopes_of round) }; at = at; round = round }) ∷ []
use_of known round (sight.Reads name) at = elim (known_in known name (scopes_of round)) [
  | None ↦ []
  | Some local ↦ (record { usage = usage.Read; local = local; at = at; round = round }) ∷ []
]
use_of known round other at = []

-- what an event says of a parameter
abbrev pub param_of : Open → Sight → Span → List Use
param_of round (sight.Param name) at = (record { usage = usage.Param; local = record { name = name.0; scope = innermost (scopes_of round) }; at = at; round = round }) ∷ []
param_of round other at = []

-- the locals that are known behind a use
abbrev pub known_behind : List Local → List Use → List Local
known_behind known [] = known
known_behind known (u ∷ more) = known_behind (if assigns u.usage then u.local ∷ known else known) more

-- the uses of locals in a text, in its order
abbrev pub uses_from : List Local → List (Open × Event) → List Use
uses_from known [] = []
uses_from known (p ∷ more) =
    let uses = use_of known p.0 p.1.sight p.1.at in
    uses ++ uses_from (known_behind known uses) more

abbrev pub uses_in : List Event → List Use
uses_in events = uses_from [] (placed [] events)

-- whether a thread is started at a place
abbrev pub starts_at : ℕ → Sight → Span → Bool
starts_at place (sight.Starts body) at = at.from == place
starts_at place other at = false

-- the uses of locals behind the word that starts a thread at a place
abbrev pub uses_behind_start : ℕ → List Local → List (Open × Event) → List Use
uses_behind_start place known [] = []
uses_behind_start place known (p ∷ more) =
    if starts_at place p.1.sight p.1.at then uses_from known more
    else uses_behind_start place (known_behind known (use_of known p.0 p.1.sight p.1.at)) more
