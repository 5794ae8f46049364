-- The rule of a thread: its number and its maker never change, and once it has ended its state and its result tell how.
use Rattle.std.specs.Prelude.{◌≡◌, ◌<◌, ℕ, ◌+◌, ◌*◌, true, List, Option, Some, None}
use Rattle.rb_tree.specs.declared.span.Span.{Span}
use Rattle.rb_model.specs.declared.fault.Fault.{Fault}
use Rattle.rb_model.specs.declared.fault.Fault.TheVariants as fault
use Rattle.rb_model.specs.declared.value.Id.{Id}
use Rattle.rb_model.specs.Ends.{End as Ending, Value, Raised, Steps, Full, Sink, Memory}
use Rattle.rb_model.specs.Things.{Thread, ThreadState}
use Rattle.shared_run.specs.Run.{IsThread}
use Rattle.heap_core.specs.Blocks.{Block}
use Rattle.heap_core.specs.Spelling.{Spells}
use Rattle.heap_core.specs.Moment.{Moment, At, word, thing_at, size_at}
use Rattle.heap_core.specs.View.{Holder, Busy, Ends, busy_at}

abbrev pub thread_tag : ℕ
thread_tag = 5

abbrev pub state_of : ℕ → ℕ
state_of at = at + 5

abbrev pub result_of : ℕ → ℕ
result_of at = at + 6

abbrev pub fault_number : Fault → ℕ
fault_number fault.NoMethod = 0
fault_number fault.ArgumentCount = 1
fault_number fault.TypeMismatch = 2
fault_number fault.BadKey = 3
fault_number fault.ZeroDivision = 4
fault_number fault.IntegerOverflow = 5
fault_number fault.IndexTooSmall = 6
fault_number fault.ArrayTooLong = 7
fault_number fault.TextTooLong = 8
fault_number fault.TooDeep = 9
fault_number fault.JoinSelf = 10
fault_number fault.LockOwned = 11
fault_number fault.UnlockForeign = 12
fault_number fault.ThreadLimit = 13

-- both numbers of a span in one word
abbrev pub span_word : Span → ℕ
span_word s = s.from + 4294967296 * s.to

-- The state and the result of a thread that ended. With a value: 1, and the word that spells it. Of a fault the state tells which, and the result
-- where. Where the heap was full the state tells how many words were in use, and the result how many were asked for.
abbrev pub EndIs : List Block → (state result : ℕ) → Ending → Type 0
EndIs bs state result (Value v) = (state ≡ 1) × Spells bs result v
EndIs bs state result Steps = state ≡ 2
EndIs bs state result Sink = state ≡ 3
EndIs bs state result Memory = state ≡ 4
EndIs bs state result (Raised f at) = (state ≡ 8 + fault_number f) × (result ≡ span_word at)
EndIs bs state result (Full used asked) = (state ≡ 32 + used) × (result ≡ asked)

-- of a thread that goes on they tell nothing: that it has ended the table of threads says
abbrev pub TellsEnd : List Block → (state result : ℕ) → Option Ending → Type 0
TellsEnd bs state result None = Unit {0}
TellsEnd bs state result (Some how) = EndIs bs state result how

-- a pass of this thread that lays how it ends says what the words are
abbrev pub SaysEnd : Moment → (number at : ℕ) → Holder → Busy → Type 0
SaysEnd m number at k (Ends state result) = k.view.thread ≡ number → (word m (state_of at) ≡ state) × (word m (result_of at) ≡ result)
SaysEnd m number at k busy = Unit {0}

pub record ThreadStands (m : Moment) (id : Id) (number maker at : ℕ) : Type 0 where
  pub state : ThreadState
  pub thing : thing_at m id ≡ Some (Thread state)
  pub number_is : state.number ≡ number
  pub maker_is : state.maker ≡ maker
  -- it is one of the run, and not the main one, which is no thing
  pub begun : 0 < number
  pub within : IsThread m.run number
  pub tag : word m at ≡ thread_tag
  pub made_by : word m (at + 1) ≡ id.thread
  pub serial : word m (at + 2) ≡ id.serial
  pub number_word : word m (at + 3) ≡ number
  pub maker_word : word m (at + 4) ≡ maker
  -- nothing is counted of it
  pub size : size_at m id ≡ None
  pub end : TellsEnd m.blocks (word m (state_of at)) (word m (result_of at)) state.end
  pub says : (j : ℕ) (k : Holder) → At m.holders j k → k.live ≡ true → SaysEnd m number at k (busy_at at k.doing)
