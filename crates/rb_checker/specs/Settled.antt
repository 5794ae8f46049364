-- The rule that a thread uses only settled locals of outside.
use Rattle.std.specs.Prelude.{ℕ, Bool, true, false, not, ◌==◌, ◌&&◌, List, [], ◌∷◌, Option, Some, None, if◌then◌else◌}
use Rattle.std.specs.List.{flat_map, filter, list_any}
use Rattle.rb_tree.specs.declared.span.Span.{Span}
use Rattle.rb_checker.specs.declared.event.Event.{Event}
use Rattle.rb_checker.specs.declared.event.Around.{Around as Enclosure}
use Rattle.rb_checker.specs.declared.event.Around.TheVariants as around
use Rattle.rb_checker.specs.declared.fault.CheckFault.{CheckFault}
use Rattle.rb_checker.specs.declared.fault.CheckFault.TheVariants as fault
use Rattle.rb_checker.specs.Around.{Open}
use Rattle.rb_checker.specs.declared.locals.Local.{Local}
use Rattle.rb_checker.specs.Locals.{Use, assigns, same_scope, same_local, scopes_of, known_in, uses_from, uses_behind_start}

-- whether this opens the scope of a local
abbrev pub opens : Option ℕ → Enclosure × Span → Bool
opens scope (around.Block, at) = same_scope scope (Some at.from)
opens scope (around.Thread, at) = same_scope scope (Some at.from)
opens scope other = false

-- of what stands round, that which is inside the scope of a local
abbrev pub within : Option ℕ → Open → Open
within scope [] = []
within scope (a ∷ outer) = if opens scope a then [] else a ∷ within scope outer

-- whether this is a loop or a block, and among what stands round there
abbrev pub holds : Open → Enclosure × Span → Bool
holds round (around.Loop, at) = list_any (λ (b : Enclosure × Span). elim b.0 [ around.Loop ↦ b.1.from == at.from | other ↦ false ]) round
holds round (around.Block, at) = list_any (λ (b : Enclosure × Span). elim b.0 [ around.Block ↦ b.1.from == at.from | other ↦ false ]) round
holds round (around.Thread, at) = list_any (λ (b : Enclosure × Span). elim b.0 [ around.Thread ↦ b.1.from == at.from | other ↦ false ]) round
holds round (around.Value name, at) = false

-- whether the right side of an assignment to a local is among what stands round
abbrev pub in_value_of : List Local → Local → Open → Bool
in_value_of known v [] = false
in_value_of known v ((around.Value name, at) ∷ outer) =
    elim (known_in known name (scopes_of outer)) [ None ↦ in_value_of known v outer | Some local ↦ (if same_local local v then true else in_value_of known v outer) ]
in_value_of known v (other ∷ outer) = in_value_of known v outer

abbrev pub is_empty : List Use → Bool
is_empty [] = true
is_empty (u ∷ more) = false

-- the assignments to a local
abbrev pub assignments_to : Local → List Use → List Use
assignments_to v uses = filter (λ (u : Use). assigns u.usage && same_local u.local v) uses

-- all locals of a text
abbrev pub locals_in : List Use → List Local
locals_in uses = flat_map (λ (u : Use). if assigns u.usage then u.local ∷ [] else []) uses

-- The events of a text are given, each with what stands round it.
module _ (text : List (Open × Event)) where
  abbrev pub uses : List Use
  uses = uses_from [] text

  -- A local is settled for the thread that is started at a place, where each assignment to it has ended before that place, none stands behind it,
  -- and no loop or block inside its scope holds both an assignment to it and that place.
  abbrev pub is_settled : Local → ℕ → Open → Bool
  is_settled v start round =
      is_empty (assignments_to v (uses_behind_start start [] text))
      && (not (list_any (λ (a : Use). list_any (holds a.round) (within v.scope round)) (assignments_to v uses)) && not (in_value_of (locals_in uses) v round))

  -- whether a local that is used where these stand round is settled for each thread inside its scope
  abbrev pub is_settled_for_all : Local → Open → Bool
  is_settled_for_all v [] = true
  is_settled_for_all v ((around.Thread, at) ∷ outer) =
      if opens v.scope (around.Thread, at) then true else is_settled v at.from outer && is_settled_for_all v outer
  is_settled_for_all v (other ∷ outer) = if opens v.scope other then true else is_settled_for_all v outer

  -- a fault at each use, in a thread, of a local of outside that is not settled
  abbrev pub unsettled : List CheckFault
  unsettled = flat_map (λ (u : Use). if is_settled_for_all u.local u.round then [] else fault.UnsettledCapture u.at ∷ []) uses
