-- Where the locals of a text are assigned and its threads start, as the check keeps it.
use Rattle.std.specs.Prelude.{◌≡◌, ℕ, Bool, true, false, ◌==◌, ◌&&◌, ◌≤◌, nat_eq, nat_lt, List, [], drop, length, Option, Some, None, unwrap_or, is_some, if◌then◌else◌}
use Rattle.std.specs.List.{list_any}
use Rattle.std.specs.HashMap as map
use Rattle.std.specs.HashMap.{HashMap}
use Rattle.std.specs.HashSet.{HashSet, contains_by}
use Rattle.std.specs.declared.hash.FoldHasher.{FoldHasher}
use Rattle.std.specs.declared.hash.BuildHasherDefault.{BuildHasherDefault}
use Rattle.rb_tree.specs.declared.span.Span.{Span}
use Rattle.rb_checker.specs.declared.event.Event.{Event}
use Rattle.rb_checker.specs.declared.event.Around.{Around}
use Rattle.rb_checker.specs.declared.event.Around.TheVariants as around
use Rattle.rb_checker.specs.declared.locals.Local.{Local}
use Rattle.rb_checker.specs.declared.settling.Held.{Held}
use Rattle.rb_checker.specs.declared.settling.Enclosure.{Enclosure}
use Rattle.rb_checker.specs.declared.settling.Enclosure.TheVariants as enclosure
use Rattle.rb_checker.specs.Around.{Open}
use Rattle.rb_checker.specs.declared.settling.Assignments.{Assignments}
use Rattle.rb_checker.specs.Locals.{Use, assigns, same_local, starts_at, uses_from, uses_behind_start}
use Rattle.rb_checker.specs.Settled.{holds}
use Rattle.rb_checker.specs.Walked.{is_known}

-- the enclosures that may hold both an assignment and the start of a thread
abbrev pub enclosure_of : Around → Option Enclosure
enclosure_of around.Loop = Some enclosure.Loop
enclosure_of around.Block = Some enclosure.Block
enclosure_of around.Thread = Some enclosure.Thread
enclosure_of (around.Value name) = None

abbrev pub same_enclosure : Enclosure → Enclosure → Bool
same_enclosure enclosure.Loop enclosure.Loop = true
same_enclosure enclosure.Block enclosure.Block = true
same_enclosure enclosure.Thread enclosure.Thread = true
same_enclosure a b = false

abbrev pub same_held : Held → Held → Bool
same_held a b = same_local a.local b.local && (same_enclosure a.enclosure b.enclosure && a.from == b.from)

-- what stands round assignments
abbrev pub Helds : Type 0
Helds = HashSet Held (BuildHasherDefault FoldHasher)

-- whether a key is in a set
abbrev pub is_key : Helds → Held → Bool
is_key set key = contains_by (λ (k : Held). same_held key k) set

-- whether it is noted that this stands round an assignment to a local
abbrev pub has_held : Helds → Local → Around × Span → Bool
has_held set v (a, at) = elim (enclosure_of a) [
  | None ↦ false
  | Some e ↦ is_key set (record { local = v; enclosure = e; from = at.from })
]

-- behind how many uses the last assignment to a local stands, 0 where there is none
abbrev pub end_of : HashMap Local ℕ (BuildHasherDefault FoldHasher) → Local → ℕ
end_of ends v = unwrap_or (map.get_by (λ (k : Local). same_local v k) ends) 0

-- what is noted of a start, behind an event that may be that start
abbrev pub start_behind : Option ℕ → Bool → ℕ → Option ℕ
start_behind (Some before) here uses = Some before
start_behind None here uses = if here then Some uses else None

-- whether a use assigns a local
abbrev pub assigns_as : Local → Use → Bool
assigns_as v u = assigns u.usage && same_local v u.local

-- whether some of these uses assign a local, and do so where this stands round
abbrev pub is_assigned_by : Local → List Use → Bool
is_assigned_by v uses = list_any (λ (u : Use). assigns_as v u) uses

abbrev pub is_assigned_inside : Local → Around × Span → List Use → Bool
is_assigned_inside v e uses = list_any (λ (u : Use). assigns_as v u && holds u.round e) uses

-- the uses behind a start that stands behind so many of them
abbrev pub behind_start : Option ℕ → List Use → List Use
behind_start None uses = []
behind_start (Some before) uses = drop before uses

-- what is noted of a text
pub record IsNoted (a : Assignments) (text : List (Open × Event)) : Type 0 where
  pub uses : a.uses ≡ length (uses_from [] text)
  pub known : (v : Local) → is_known a.known v ≡ is_assigned_by v (uses_from [] text)
  pub ends : (v : Local) (m : ℕ) → is_assigned_by v (drop m (uses_from [] text)) ≡ nat_lt m (end_of a.ends v)
  pub starts : (place : ℕ) → uses_behind_start place [] text ≡ behind_start (map.get nat_eq a.starts place) (uses_from [] text)
  pub found : (place : ℕ) → is_some (map.get nat_eq a.starts place) ≡ list_any (λ (p : Open × Event). starts_at place p.1.sight p.1.at) text
  pub low : (place : ℕ) → unwrap_or (map.get nat_eq a.starts place) 0 ≤ length (uses_from [] text)
  pub held : (v : Local) (e : Around × Span) → has_held a.held v e ≡ is_assigned_inside v e (uses_from [] text)
