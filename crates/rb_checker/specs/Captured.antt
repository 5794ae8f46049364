-- Which locals of outside the body of a thread captures, and which names its frame has.
use Rattle.std.specs.Prelude.{ℕ, ◌==◌, List, [], ◌∷◌, ◌++◌, Option, Some, None, if◌then◌else◌}
use Rattle.std.specs.List.{flat_map}
use Rattle.std.specs.Option.{option_or}
use Rattle.rb_tree.specs.declared.span.Span.{Span}
use Rattle.rb_tree.specs.declared.span.NameId.{NameId}
use Rattle.rb_tree.specs.declared.node.Program.{Program}
use Rattle.rb_checker.specs.declared.event.Event.{Event}
use Rattle.rb_checker.specs.declared.event.Sight.{Sight}
use Rattle.rb_checker.specs.declared.event.Sight.TheVariants as sight
use Rattle.rb_checker.specs.declared.event.Around.TheVariants as around
use Rattle.rb_checker.specs.declared.locals.Local.{Local}
use Rattle.rb_checker.specs.Around.{Open}
use Rattle.rb_checker.specs.Check.{texts}
use Rattle.rb_checker.specs.Locals.{Use, is_param, uses_in}
use Rattle.rb_checker.specs.Scoped.{made_in, names_behind}
use Rattle.rb_checker.specs.Settled.{within}

-- A value is handed to each thread among what stands round: there it is a local of the thread's own scope, with the same name.
abbrev pub handed : ℕ → Open → List Local
handed name [] = []
handed name ((around.Thread, at) ∷ outer) = (record { name = name; scope = Some at.from }) ∷ handed name outer
handed name (other ∷ outer) = handed name outer

-- a local that is used is handed to the threads that stand round the use inside its scope
abbrev pub captured_by : Use → List Local
captured_by u = handed u.local.name (within u.local.scope u.round)

abbrev pub captured_in : List Use → List Local
captured_in uses = flat_map captured_by uses

-- the parameters
abbrev pub param_by : Use → List Local
param_by u = if is_param u.usage then u.local ∷ [] else []

abbrev pub params_in : List Use → List Local
params_in uses = flat_map param_by uses

-- the place where an event starts the body of a number, and where events do so first
abbrev pub started_by : ℕ → Sight → Span → Option ℕ
started_by number (sight.Starts body) at = if body == number then Some at.from else None
started_by number other at = None

abbrev pub start_in : ℕ → List Event → Option ℕ
start_in number [] = None
start_in number (e ∷ more) = option_or (started_by number e.sight e.at) (start_in number more)

-- the names that the thread at a place captures, each once, in the order of their first use
abbrev pub captured_at : List Use → ℕ → List NameId
captured_at uses place = names_behind [] (Some place) (captured_in uses)

-- the names of its frame, each once: its parameters, the names that it captures, and its other locals
abbrev pub frame_at : List Use → ℕ → List NameId
frame_at uses place = names_behind [] (Some place) (params_in uses ++ (captured_in uses ++ made_in uses))

-- the names at a place that may be there
abbrev pub if_started : (ℕ → List NameId) → Option ℕ → List NameId
if_started names None = []
if_started names (Some place) = names place

module _ (program : Program) where
  -- the place where the body of a number is started
  abbrev pub start_of : ℕ → Option ℕ
  start_of number = start_in number (flat_map (λ (events : List Event). events) (texts program))

  -- the names that the body of a number captures
  abbrev pub captured_names : ℕ → List NameId
  captured_names number = if_started (captured_at (flat_map uses_in (texts program))) (start_of number)

  -- and those of its frame
  abbrev pub thread_names : ℕ → List NameId
  thread_names number = if_started (frame_at (flat_map uses_in (texts program))) (start_of number)
