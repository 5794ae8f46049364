-- Whether a local is settled, by what is noted of its text.
use Rattle.std.specs.Prelude.{ℕ, Bool, true, false, not, ◌&&◌, ◌||◌, nat_eq, nat_lt, List, [], ◌∷◌, Some, None, if◌then◌else◌}
use Rattle.std.specs.HashMap as map
use Rattle.std.specs.List.{list_any}
use Rattle.rb_tree.specs.declared.span.Span.{Span}
use Rattle.rb_tree.specs.declared.span.NameId.{NameId}
use Rattle.rb_checker.specs.declared.event.Sight.{Sight}
use Rattle.rb_checker.specs.declared.event.Sight.TheVariants as sight
use Rattle.rb_checker.specs.declared.event.Around.{Around as Enclosure}
use Rattle.rb_checker.specs.declared.event.Around.TheVariants as around
use Rattle.rb_checker.specs.declared.fault.CheckFault.{CheckFault}
use Rattle.rb_checker.specs.declared.fault.CheckFault.TheVariants as fault
use Rattle.rb_checker.specs.declared.locals.Local.{Local}
use Rattle.rb_checker.specs.declared.settling.Assignments.{Assignments}
use Rattle.rb_checker.specs.Around.{Open}
use Rattle.rb_checker.specs.Assigned.{end_of, has_held}
use Rattle.rb_checker.specs.Locals.{Use, same_local, scopes_of, known_in}
use Rattle.rb_checker.specs.Settled.{opens, within}

-- whether the value of an assignment to a name is one to a local
abbrev pub is_value_of : List Local → Local → NameId → Open → Bool
is_value_of known v name outer = elim (known_in known name (scopes_of outer)) [ None ↦ false | Some local ↦ same_local local v ]

-- whether the right side of an assignment to a local is among what stands round
abbrev pub in_value_of : List Local → Local → Open → Bool
in_value_of known v [] = false
in_value_of known v ((around.Value name, at) ∷ outer) = is_value_of known v name outer || in_value_of known v outer
in_value_of known v (other ∷ outer) = in_value_of known v outer

module _ (a : Assignments) where
  -- whether a local is assigned behind a start
  abbrev pub is_assigned_behind : Local → ℕ → Bool
  is_assigned_behind v start = elim (map.get nat_eq a.starts start) [ None ↦ false | Some before ↦ nat_lt before (end_of a.ends v) ]

  -- whether this is a thread that starts before an assignment to a local
  abbrev pub is_early : Local → Enclosure × Span → Bool
  is_early v (around.Thread, at) = is_assigned_behind v at.from
  is_early v other = false

  -- whether each thread inside the scope of a local starts behind the assignments to it
  abbrev pub starts_behind : Local → Open → Bool
  starts_behind v [] = true
  starts_behind v (b ∷ outer) = if opens v.scope b then true else not (is_early v b) && starts_behind v outer

  -- Whether a local is settled for each thread inside its scope. What stands round a thread further out stands round the innermost one too.
  abbrev pub is_settled : List Local → Local → Open → Bool
  is_settled known v [] = true
  is_settled known v ((around.Thread, at) ∷ outer) =
      if opens v.scope (around.Thread, at) then true
      else not (list_any (has_held a.held v) (within v.scope outer)) && (not (in_value_of known v outer) && starts_behind v ((around.Thread, at) ∷ outer))
  is_settled known v (other ∷ outer) = if opens v.scope other then true else is_settled known v outer

  -- a fault at a use of a local that is not settled
  abbrev pub unsettled_at : List Local → Use → List CheckFault
  unsettled_at known u = if is_settled known u.local u.round then [] else fault.UnsettledCapture u.at ∷ []

-- whether a thread begins
abbrev pub begins_thread : Sight → Bool
begins_thread (sight.Begins around.Thread) = true
begins_thread other = false
