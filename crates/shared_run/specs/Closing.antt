-- What is known of the history of a run once all threads have ended.
use Rattle.std.specs.Prelude.{◌≡◌, ◌≤◌, ℕ, true, List}
use Rattle.rb_model.specs.Log.{has_end}
use Rattle.rb_shared.specs.Closing.{Shows, Written, Caused, AreFull}
use Rattle.rb_shared.specs.History.{History, IsLegal, by}
use Rattle.rb_shared.specs.Placing.{history_of}
use Rattle.rb_shared.specs.Threads.{ThreadLog}
use Rattle.shared_run.specs.Run.{Run, Sunk, IsThread}

-- a history that is shown is that of the run, whose threads have all ended
abbrev pub ShowsRun : Run → History → Type 0
ShowsRun run h = (h ≡ history_of run.events run.refusals) × ((n : ℕ) → IsThread run n → has_end (by n run.events) ≡ true)

-- it is legal, and its logs are those that are known
abbrev pub ShowsAll : ℕ → List ThreadLog → History → Type 0
ShowsAll slots logs h = IsLegal slots h × Shows h logs

-- The sink has taken the prints of the history, and failed where one was refused. What the numbers of another refusal mean, each store says.
abbrev pub SinkClosed : (ℕ → ℕ → Type 0) → Sunk → Sunk → History → Type 0
SinkClosed Overflows begun sink h = Written begun.told sink.told h × (begun.faults ≤ sink.faults) × Caused begun.faults sink.faults h × AreFull Overflows h
