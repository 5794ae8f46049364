-- How a part of a script comes out, and where the machine then stands.
use Rattle.std.specs.Prelude.{◌≡◌, ◌⊎◌, ℕ, ◌-◌, Bool, true, false, List, [], ◌∷◌, ◌++◌, Some, None, Result, Ok, Err}
use Rattle.rb_model.specs.Values.{Value as Val, Nil, False, True, Int, plain}
use Rattle.rb_model.specs.declared.value.Value.{Value as Held}
use Rattle.rb_model.specs.Ends.{End, over}
use Rattle.rb_model.specs.Ends as ending
use Rattle.rb_model.specs.Acts.{Reply, Ended}
use Rattle.rb_model.specs.Log.{Log, Entry, Refusal}
use Rattle.rb_model.specs.Private.{Private}
use Rattle.rb_machine.specs.Scopes.{Script, Scope}
use Rattle.rb_machine.specs.Control.{State, On, Cont, Give, Leave as Leaving, Exit, Break, Next, Return}
use Rattle.rb_machine.specs.Call.{ended}
use Rattle.rb_machine.specs.Move.{left_in}
use Rattle.rb_machine.specs.Follows.{At, Comes}
use Rattle.rb_machine.specs.Laws.{asks_thing}
use Rattle.rb_walk.specs.declared.came.Cut.{Cut}
use Rattle.rb_walk.specs.declared.came.Cut.TheVariants as cut
use Rattle.rb_walk.specs.declared.came.Came.{Came as Registers}
use Rattle.rb_walk.specs.declared.came.Came.TheVariants as came
use Rattle.rb_walk.specs.declared.came.Leave.{Leave}
use Rattle.rb_walk.specs.declared.came.Leave.TheVariants as leave

-- a value, an exit, or the end of the thread
pub data Outcome : Type 0 where
  Gave : (value : Val) → Outcome
  Left : (exit : Exit) → Outcome
  Over : (how : End) → Outcome

-- the end of a thread that is cut
abbrev pub end_by : Cut → End
end_by cut.Steps = ending.Steps
end_by cut.Memory = ending.Memory
end_by cut.Sink = ending.Sink

-- no value came
abbrev pub is_left : Registers → Bool
is_left came.Left = true
is_left c = false

-- the value that came, where the walker has this one
abbrev pub value_of : Registers → Held → Val
value_of came.Nil v = Nil
value_of came.False v = False
value_of came.True v = True
value_of (came.Int n) v = Int n
value_of came.Other v = plain v
value_of came.Left v = plain v

-- what a leave says, with the value that lies beside it
abbrev pub left_by : Leave → Held → Outcome
left_by leave.Break v = Left Break
left_by leave.Next v = Left Next
left_by leave.Return v = Left (Return (plain v))
left_by (leave.Over e) v = Over (over e)

-- what comes in registers, with what lies in the walker
abbrev pub outcome : Registers → Held → Leave → Outcome
outcome came.Left v l = left_by l v
outcome c v l = Gave (value_of c v)

-- what comes of a value that no one keeps, or of what came instead
abbrev pub fetched : Result Held Registers → Held → Leave → Outcome
fetched (Ok value) v l = Gave (plain value)
fetched (Err c) v l = outcome c v l

-- the thread has ended
abbrev pub IsOver : Outcome → Type 0
IsOver o = (e : End) × (o ≡ Over e)

-- this value is given, or the thread has ended
abbrev pub Settles : Val → Outcome → Type 0
Settles v o = (o ≡ Gave v) ⊎ IsOver o

-- ---- what an end that the outside decides leaves of the log

-- the last that was refused was refused for the sink's failure
abbrev pub WasRefused : Log → Type 0
WasRefused l = (before : List Refusal) × (r : Refusal) × (l.refusals ≡ before ++ r ∷ []) × (r.words ≡ None)

-- the last that was refused found the shared heap full, with so many words in use, and so many that were asked for
abbrev pub WasFull : Log → (used wanted : ℕ) → Type 0
WasFull l used wanted = (before : List Refusal) × (r : Refusal) × (l.refusals ≡ before ++ r ∷ []) × (r.words ≡ Some (used, wanted))

-- the last that was done was asked of a thing, or started a thread, and had this reply
abbrev pub WasReplied : Log → Reply → Type 0
WasReplied l reply = (before : List Entry) × (e : Entry) × (l.entries ≡ before ++ e ∷ []) × (asks_thing e.call ≡ true) × (e.reply ≡ reply)

-- Where the machine then stands: it gives the value, it leaves, or it has ended. A cut by memory stands somewhere on the way to the next want. A
-- failed sink and a full heap refused the last call, or they are the end of another thread, which was told last.
abbrev pub Came : Script → ℕ → State → Log → Private → Outcome → List Cont → Scope → ℕ → ℕ → Type 0
Came S N start l h (Gave v) k sc d n = At S N start l h (On (Give v) k sc d n)
Came S N start l h (Left e) k sc d n = At S N start l h (On (Leaving e) k sc d n)
Came S N start l h (Over (ending.Value v)) k sc d n = ⊥
Came S N start l h (Over (ending.Raised f at)) k sc d n = At S N start l h (ended (ending.Raised f at) n)
Came S N start l h (Over ending.Steps) k sc d n = At S N start l h (ended ending.Steps n)
Came S N start l h (Over (ending.Full used wanted)) k sc d n =
    Comes S N start l h (ending.Full used wanted) (N - n) × (WasFull l used wanted ⊎ WasReplied l (Ended (ending.Full used wanted)))
Came S N start l h (Over ending.Memory) k sc d n = (s : State) × At S N start l h s × (left_in s ≡ n)
Came S N start l h (Over ending.Sink) k sc d n = Comes S N start l h ending.Sink (N - n) × (WasRefused l ⊎ WasReplied l (Ended ending.Sink))
