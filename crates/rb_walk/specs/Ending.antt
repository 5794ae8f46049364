-- How threads end.
use Rattle.std.specs.Prelude.{◌≡◌, ◌⊎◌, ℕ}
use Rattle.rb_model.specs.Values.{Nil}
use Rattle.rb_model.specs.Acts.{Ended}
use Rattle.rb_model.specs.Ends.{End, Value, Full, Sink}
use Rattle.rb_model.specs.Log.{Log}
use Rattle.rb_model.specs.Private.{Private}
use Rattle.rb_machine.specs.Scopes.{Script}
use Rattle.rb_machine.specs.Control.{State}
use Rattle.rb_machine.specs.Follows.{Comes}
use Rattle.rb_walk.specs.Outcome.{Outcome, Gave, Left, Over, WasRefused, WasFull, WasReplied}

-- the value of the main thread is nil, and an exit at its top level ends it as well
abbrev pub ending : Outcome → End
ending (Gave v) = Value Nil
ending (Left exit) = Value Nil
ending (Over how) = how

-- that of another is the value of its last statement; no script that is accepted leaves its body
abbrev pub body_ending : Outcome → End
body_ending (Gave v) = Value v
body_ending (Left exit) = Value Nil
body_ending (Over how) = how

-- An end that the outside decides has its cause in the log: where it is the sink's failure or a full heap, the last call was refused for it, or
-- told this end of another thread.
pub record IsCaused (l : Log) (how : End) : Type 0 where
  pub refused : how ≡ Sink → WasRefused l ⊎ WasReplied l (Ended Sink)
  pub filled : (used wanted : ℕ) → how ≡ Full used wanted → WasFull l used wanted ⊎ WasReplied l (Ended (Full used wanted))

-- From its start, with so many steps at most, a thread's own work goes out as the reference machine says, at this step, and its end has its cause.
pub record GoesOut (S : Script) (N : ℕ) (start : State) (l : Log) (h : Private) (how : End) (step : ℕ) : Type 0 where
  pub comes : Comes S N start l h how step
  pub caused : IsCaused l how
