-- The heap at one moment: its words and its slot, the run behind them, what each seat knows, the table of threads, and the blocks.
use Rattle.std.specs.Prelude.{◌≡◌, ℕ, zero, suc, Bool, if◌then◌else◌, List, get_or, Option, Some, None}
use mathlib.Core.Option.{some}
use lib.ListN.{get_elem?}
use Rattle.rb_model.specs.declared.value.Id.{Id}
use Rattle.rb_model.specs.Log.{has_end}
use Rattle.rb_model.specs.Things.{Thing}
use Rattle.rb_shared.specs.History.{by}
use Rattle.rb_shared.specs.Store.{found}
use Rattle.shared_run.specs.Run.{Run}
use Rattle.heap_core.specs.Handing.{Plan, Homes}
use Rattle.heap_core.specs.Blocks.{Block}
use Rattle.heap_core.specs.Charges.{tally_of}
use Rattle.heap_core.specs.Sizes.{Size, size_of_id}
use Rattle.heap_core.specs.View.{Holder}

pub record Moment : Type 0 where
  pub words : List ℕ
  pub homes : Homes
  pub plan : Plan
  pub run : Run
  pub holders : List Holder
  pub lines : List (Option ℕ)
  pub blocks : List Block

abbrev pub At : List Holder → ℕ → Holder → Type 0
At holders j k = get_elem? holders j ≡ some k

abbrev pub word : Moment → ℕ → ℕ
word m i = get_or m.words i 0

-- the thing of an id, and what is counted of it
abbrev pub thing_at : Moment → Id → Option Thing
thing_at m id = found m.run.store id

abbrev pub size_at : Moment → Id → Option Size
size_at m id = size_of_id (tally_of m.plan.slots m.run.events).sizes id

-- whether a thread has ended
abbrev pub ended_in : Run → ℕ → Bool
ended_in run t = has_end (by t run.events)

abbrev pub is_over : Moment → ℕ → Bool
is_over m t = ended_in m.run t

-- whom the owner word of a mutex names: nobody where it is 0 or names a thread that ended
abbrev pub owner_by : Run → ℕ → Option ℕ
owner_by run zero = None
owner_by run (suc t) = if ended_in run t then None else Some t

abbrev pub owner_in : Moment → ℕ → Option ℕ
owner_in m n = owner_by m.run n
