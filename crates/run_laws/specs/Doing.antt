-- What the threads of a history do.
use Rattle.std.specs.Prelude.{◌≡◌, ◌≤◌, ◌<◌, ◌⊎◌, ℕ, ◌^◌, List, length, slice_get, Some}
use Rattle.rb_model.specs.declared.value.Id.{Id}
use Rattle.rb_model.specs.Values.{Value as Val, Reference}
use Rattle.rb_model.specs.Acts.{Started}
use Rattle.rb_model.specs.Ends.{End}
use Rattle.rb_model.specs.Private.{Private, Item}
use Rattle.rb_model.specs.Log.{Log, Start}
use Rattle.rb_shared.specs.Lists.{Has, Each}
use Rattle.rb_shared.specs.History.{Event, History, Placed}
use Rattle.rb_machine.specs.Scopes.{Script}
use Rattle.rb_machine.specs.Control.{State}
use Rattle.rb_machine.specs.Alone.{opening}
use Rattle.rb_machine.specs.Threads.{beginning}
use Rattle.rb_machine.specs.Follows.{Follows}

-- one of these events started thread n so: with this body, and these values
abbrev pub IsStartedIn : List Event → (n body : ℕ) → List Val → Type 0
IsStartedIn es n body values = (t step : ℕ) × (id : Id) × (moved : List Item) × (thread : Reference)
    × Has es (record { thread = t; entry = record { step = step; call = Start id body values; moved = moved; reply = Started n thread } })

-- How thread n begins that is the main one, or was started by one of these events: with the top level of the script, or with the body and the
-- values of that entry.
abbrev pub Begins : Script → ℕ → List Event → ℕ → State → Type 0
Begins S N es n start =
    ((n ≡ 0) × (start ≡ opening S N)) ⊎ ((body : ℕ) × (values : List Val) × IsStartedIn es n body values × (start ≡ beginning S N body values))

-- A thread does from there what the reference machine does, given the replies that it got, until it ends.
pub record Does (S : Script) (N : ℕ) (h : History) (n : ℕ) (l : Log) : Type 0 where
  pub start : State
  pub begins : Begins S N h.events n start
  pub how : End
  pub store : Private
  pub follows : Follows S N start l how store
  pub whose : store.thread ≡ n

-- so does each thread of the history
abbrev pub EachDoes : Script → ℕ → History → Type 0
EachDoes S N h = (n : ℕ) (p : Placed) → slice_get h.threads n ≡ Some p → Does S N h n p.log

-- ---- numbers

-- what moves has a serial number below 2^63: those from there on are of threads
abbrev pub MovesThings : Event → Type 0
MovesThings e = Each (λ (x : Item). x.id.serial < 2 ^ 63) e.entry.moved

-- a thread has made no more things than have such numbers
abbrev pub MadeFew : Private → Type 0
MadeFew h = length h.things ≤ 2 ^ 63
