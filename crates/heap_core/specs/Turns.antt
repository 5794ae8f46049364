-- The rule of the turn word. Nobody has the turn, and what is handed on with it lies in the slot; or one pass has both, whose thread goes on.
use Rattle.std.specs.Prelude.{◌≡◌, ◌≢◌, ◌⊎◌, ℕ, suc, Bool, true, false, List, length, Option, [], ◌∷◌, None, Some}
use mathlib.Core.Option.{some, none}
use Rattle.rb_shared.specs.Lists.{Has}
use Rattle.shared_run.specs.Run.{Run, Sunk}
use Rattle.shared_run.specs.Run as runs
use Rattle.heap_core.specs.Places.{turn_word}
use Rattle.heap_core.specs.declared.line.Line.{Line}
use Rattle.heap_core.specs.Handing.{Handed, Homes, numbers}
use Rattle.heap_core.specs.View.{Holder, Idle, Turned, busy_at}
use Rattle.heap_core.specs.Moment.{Moment, At, ended_in, word}

-- what two numbers of a refusal mean is said of all refusals, and not here
abbrev pub Any : ℕ → ℕ → Type 0
Any used wanted = Unit {0}

-- the sink has taken the prints of the run
abbrev pub Sinks : Moment → Sunk → Type 0
Sinks m x = runs.Stands Any m.plan.begun m.run.events m.run.refusals x

-- Each line of the table of threads is that of a thread, and tells whether it has ended. Each thread that goes on has one.
pub record LinesTell (run : Run) (lines : List (Option Line)) : Type 0 where
  pub known : (l : Line) → Has lines (Some l) → runs.IsThread run l.number
  pub over : (l : Line) → Has lines (Some l) → l.over ≡ ended_in run l.number
  pub all : (t : ℕ) → runs.IsThread run t → ended_in run t ≡ false → (l : Line) × Has lines (Some l) × (l.number ≡ t)

-- what is handed on stands for the run: the lines are those of its threads, the sink has taken its prints, and beside the main thread there are those
-- that were started
abbrev pub IsHanded : Moment → Handed → Type 0
IsHanded m h = (numbers h.lines ≡ m.lines) × LinesTell m.run h.lines × Sinks m h.sink × (length m.run.refusals ≡ suc h.started)

-- the pass has the turn, with this; the slot is out with its seat, or at home and empty
abbrev pub HasTurn : Holder → Handed → Bool → Type 0
HasTurn k h out = busy_at turn_word k.doing ≡ Turned h out

abbrev pub HasNone : Holder → Type 0
HasNone k = busy_at turn_word k.doing ≡ Idle

abbrev pub home_while : Bool → Homes
home_while true = none ∷ []
home_while false = some None ∷ []

pub record Free (m : Moment) : Type 0 where
  pub word : word m turn_word ≡ 0
  pub what : Handed
  pub home : m.homes ≡ some (Some what) ∷ []
  pub handed : IsHanded m what
  pub nobody : (j : ℕ) (k : Holder) → At m.holders j k → k.live ≡ true → HasNone k

pub record Taken (m : Moment) : Type 0 where
  pub word : word m turn_word ≡ 1
  pub holder : ℕ
  pub who : Holder
  pub there : At m.holders holder who
  pub live : who.live ≡ true
  pub going : who.view.ended ≡ false
  pub what : Handed
  pub out : Bool
  pub has : HasTurn who what out
  pub home : m.homes ≡ home_while out
  pub handed : IsHanded m what
  pub others : (j : ℕ) (k : Holder) → j ≢ holder → At m.holders j k → k.live ≡ true → HasNone k

-- The rule of the turn word.
abbrev pub TurnStands : Moment → Type 0
TurnStands m = Free m ⊎ Taken m
