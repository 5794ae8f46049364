-- What a thread, and all that it started, has done.
use Rattle.std.specs.Prelude.{◌≡◌, ◌⊎◌, ℕ, true, false, List, [], ◌∷◌, map, Option, Some, None}
use Rattle.std.specs.List.{flat_map}
use Rattle.rb_model.specs.Values.{Value as Val, plain}
use Rattle.rb_model.specs.Acts.{Reply, Started, Ended}
use Rattle.rb_model.specs.Ends.{End as Ending, Full, Sink}
use Rattle.rb_model.specs.Private.{Private}
use Rattle.rb_model.specs.Log.{Log, Entry, Refusal, Call, Start, fresh}
use Rattle.rb_shared.specs.Lists.{Has}
use Rattle.rb_shared.specs.Threads.{ThreadLog}
use Rattle.rb_shared.specs.View.{View, known_logs, to_globals}
use Rattle.rb_shared.specs.Asking.{Knows}
use Rattle.rb_machine.specs.Scopes.{Script}
use Rattle.rb_machine.specs.Control.{State}
use Rattle.rb_machine.specs.Alone.{opening}
use Rattle.rb_machine.specs.Threads.{beginning}
use Rattle.rb_machine.specs.Follows.{Follows}
use Rattle.rb_thread.specs.declared.job.Job.{Job as Held}

-- What a thread is to do: the main one the top level of the script, another a body with the values that this is given.
pub data Job : Type 0 where
  Main : Job
  Body : (number body : ℕ) (values : List Val) → Job

-- what a job of the code is
abbrev pub job_of : Held → Job
job_of j = Body j.number j.body (map plain j.values.items)

abbrev pub number_of : Job → ℕ
number_of Main = 0
number_of (Body number body values) = number

-- the state in which its machine begins
abbrev pub start_of : Script → ℕ → Job → State
start_of S N Main = opening S N
start_of S N (Body number body values) = beginning S N body values

-- the job that an entry gives to the thread that it starts
abbrev pub job_by : Call → Reply → List Job
job_by (Start id body values) (Started number thread) = Body number body values ∷ []
job_by call reply = []

-- the jobs of the threads that were started, in order
abbrev pub jobs : List Entry → List Job
jobs entries = flat_map (λ (e : Entry). job_by e.call e.reply) entries

-- ---- the causes of ends

-- what a refusal tells that ends a thread so: no words where the sink failed, and those of the shared heap where it was full
abbrev pub words_of : Ending → Option (Option (ℕ × ℕ))
words_of Sink = Some None
words_of (Full used wanted) = Some (Some (used, wanted))
words_of how = None

-- a call was refused with these words
abbrev pub WasRefused : Log → Option (ℕ × ℕ) → Type 0
WasRefused l words = (r : Refusal) × Has l.refusals r × (r.words ≡ words)

-- this end of another thread was told
abbrev pub WasTold : Log → Ending → Type 0
WasTold l how = (e : Entry) × Has l.entries e × (e.reply ≡ Ended how)

-- An end by the sink's failure, or by a full heap, has its cause in the log: a call of the thread was refused for it, or another thread ended so
-- and that was told.
abbrev pub HasCause : Log → Ending → Type 0
HasCause l how = (words : Option (ℕ × ℕ)) → words_of how ≡ Some words → WasRefused l words ⊎ WasTold l how

-- ---- what threads do

-- what a thread with this job does, from its start to its End entry
pub record Does (S : Script) (N : ℕ) (j : Job) (l : Log) : Type 0 where
  pub how : Ending
  pub store : Private
  pub follows : Follows S N (start_of S N j) l how store
  pub whose : store.thread ≡ number_of j
  pub cause : HasCause l how

-- a thread with this job has ended, and did it: its whole log is among these
abbrev pub HasDone : Script → ℕ → List ThreadLog → Job → Type 0
HasDone S N ts j = (t : ThreadLog) × Has ts t × (t.thread ≡ number_of j) × (t.ended ≡ true) × Does S N j t.log

-- a thread is accounted for: each that it started has ended, and did the job that its start gave it
abbrev pub Accounted : Script → ℕ → List ThreadLog → ThreadLog → Type 0
Accounted S N ts t = (j : Job) → Has (jobs t.log.entries) j → HasDone S N ts j

-- each that has ended is
abbrev pub AllAccounted : Script → ℕ → List ThreadLog → Type 0
AllAccounted S N ts = (t : ThreadLog) → Has ts t → t.ended ≡ true → Accounted S N ts t

-- a pass with which a thread may begin its job
pub record Fresh (S : Script) (N : ℕ) (j : Job) (v : View) : Type 0 where
  pub thread_is : v.thread ≡ number_of j
  pub going : v.ended ≡ false
  pub log_is : v.log ≡ fresh
  pub accounted : AllAccounted S N (known_logs v)
  pub globals : Knows v to_globals

-- a thread with this job has ended and did it, and it and all threads that it knows to have ended are accounted for
pub record Ran (S : Script) (N : ℕ) (j : Job) (v : View) : Type 0 where
  pub thread_is : v.thread ≡ number_of j
  pub ended : v.ended ≡ true
  pub does : Does S N j v.log
  pub accounted : AllAccounted S N (known_logs v)
