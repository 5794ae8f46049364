-- What the heap is made with, and what is handed on with the turn.
use Rattle.std.specs.Prelude.{ℕ, Bool, List, Option, map}
use Rattle.std.specs.Option.{option_map}
use Rattle.heap_core.specs.declared.line.Line.{Line}
use Rattle.shared_run.specs.Run.{Sunk}

module _ {K : Type 0} (told : K → Option (List ℕ)) (faults : K → ℕ) where
  -- what a sink tells, and whether it is done with
  abbrev pub sunk_of : K → Bool → Sunk
  sunk_of out failed = record { told = told out; faults = faults out; failed = failed }

-- What a heap is made with: how many words it has, how many slots for threads, and what its sink was then.
pub record Plan : Type 0 where
  pub words : ℕ
  pub slots : ℕ
  pub begun : Sunk

-- What is handed on with the turn: what the sink tells now, how many threads were started, and the table of threads, which has a line for each slot.
-- A line is free, or that of a thread.
pub record Handed : Type 0 where
  pub sink : Sunk
  pub started : ℕ
  pub lines : List (Option Line)

-- the numbers of the threads that have a line
abbrev pub numbers : List (Option Line) → List (Option ℕ)
numbers lines = map (option_map (λ (l : Line). l.number)) lines

-- the slot of the heap has it, or nothing while a pass has the turn
abbrev pub Slot : Type 0
Slot = Option Handed

-- the slot is out with a seat, or at home
abbrev pub Homes : Type 0
Homes = List (mathlib.Core.Option.Option Slot)
