-- What the start of a thread makes of the table of threads and of the pass that starts it, and what it answers.
use Rattle.std.specs.Prelude.{◌≡◌, ◌<◌, ◌-◌, ◌+◌, ℕ, suc, Bool, true, false, nat_le, is_none, if◌then◌else◌, List, [], ◌∷◌, ◌++◌, length, set, Option, Some, None}
use Rattle.std.specs.List.{position}
use Rattle.atomic_table.specs.Table.{Me, rest}
use Rattle.rb_model.specs.declared.call.Call.{Call as Held}
use Rattle.rb_model.specs.declared.call.Call.TheVariants as held
use Rattle.rb_model.specs.declared.act.Reply.{Reply as HeldReply}
use Rattle.rb_model.specs.declared.act.Reply.TheVariants as reply
use Rattle.rb_model.specs.declared.fault.Fault.TheVariants.{ThreadLimit}
use Rattle.rb_model.specs.declared.value.Id.{Id}
use Rattle.rb_model.specs.declared.value.Ref.{Ref}
use Rattle.rb_model.specs.declared.value.Sort.TheVariants as sort
use Rattle.rb_model.specs.Acts.{Failed, Started}
use Rattle.rb_model.specs.Immediates.{reference}
use Rattle.rb_model.specs.Log.{Call, Entry, asked}
use Rattle.rb_model.specs.Moving.{refs_in_all}
use Rattle.rb_model.specs.Started.{next_thread}
use Rattle.rb_shared.specs.declared.answer.Answer.{Answer}
use Rattle.rb_shared.specs.declared.answer.Answer.TheVariants as answer
use Rattle.rb_shared.specs.Lists.{Has, Each}
use Rattle.rb_shared.specs.Store.{threads, is_full}
use Rattle.rb_shared.specs.View.{View, with_entry}
use Rattle.rb_model.specs.Doing.{said}
use Rattle.shared_run.specs.Run.{Run, IsRun}
use Rattle.shared_run.specs.Run as runs
use Rattle.heap_core.specs.declared.line.Line.{Line}
use Rattle.heap_core.specs.Blocks.{Block, ThreadAt}
use Rattle.heap_core.specs.Handing.{Handed, Slot}
use Rattle.heap_core.specs.Owning.{bare_entry}
use Rattle.heap_core.specs.Places.{thread_words}
use Rattle.heap_core.specs.Room.{Asking}
use Rattle.heap_core.specs.Threads.{thread_tag}
use Rattle.heap_core.specs.Turning.{with_plain, without_turn}
use Rattle.heap_core.specs.Turns.{HasTurn}
use Rattle.heap_core.specs.View.{Holder, with_full}

-- ---- the table

abbrev pub is_free : Option Line → Bool
is_free None = true
is_free (Some l) = false

-- the line for a thread that one of this generation starts: the first that is free, and none where that one stands too deep
abbrev pub line_for : ℕ → List (Option Line) → Option ℕ
line_for generation lines = if nat_le (length lines - 1) generation then None else position is_free lines

abbrev pub going_line : ℕ → Line
going_line n = record { number = n; over = false }

-- what is handed on when a thread was started, which has this line and the next number
abbrev pub started_on : ℕ → Handed → Handed
started_on line h = record { sink = h.sink; started = suc h.started; lines = set h.lines line (Some (going_line (suc h.started))) }

-- ---- the call

-- the call starts the next thread of this pass, with values that it knows
abbrev pub IsStart : View → Held → Type 0
IsStart v (held.Start id body values) = (id ≡ next_thread v.thread v.log) × Each (λ (r : Ref). Has v.known r) (refs_in_all values.items)
IsStart v call = ⊥

-- ---- what is seen under the turn

-- what the table says is so in a run that the pass knows of, and there are fewer threads than words
pub record TableSeen (k : Holder) (h : Handed) : Type 0 where
  pub run : Run
  pub is_run : IsRun k.view.slots run
  pub knows : runs.Knows k.view.slots run k.view
  pub started : length (threads run.store) ≡ h.started
  pub full : is_full k.view.slots run.store k.view.thread ≡ is_none (line_for k.view.generation h.lines)
  pub few : h.started < k.size

abbrev pub SeesTable : Me Slot Holder → Me Slot Holder → Type 0
SeesTable m m' = ((h : Handed) → HasTurn m.0 h false → TableSeen m.0 h) × (m' ≡ m)

-- ---- the entry

-- A thread that comes: the entry of its start, its number, the reference to it, and its line.
pub record Born : Type 0 where
  pub entry : Entry
  pub number : ℕ
  pub thread : Ref
  pub line : ℕ

-- that of the start of this thread, where so many were started before
abbrev pub born_of : (step : ℕ) → Call → (started : ℕ) → Ref → (line : ℕ) → Born
born_of step call started thread line = record { entry = bare_entry step call (Started (suc started) (reference thread)); number = suc started; thread = thread; line = line }

-- the same as code has it, under this turn
abbrev pub born_by : (step : ℕ) → Held → Handed → Ref → (line : ℕ) → Born
born_by step call turn thread line = born_of step (asked call) turn.started thread line

-- the entry of a start that finds no line
abbrev pub full_entry : ℕ → Held → Entry
full_entry step call = bare_entry step (asked call) (Failed ThreadLimit)

-- the reference is to the thread that the call starts
abbrev pub NamesNew : Ref → Held → Type 0
NamesNew thread (held.Start id body values) = (thread.sort ≡ sort.Thread) × (thread.id ≡ id)
NamesNew thread call = ⊥

abbrev pub thread_block : ℕ → Born → Block
thread_block maker b = ThreadAt b.thread.id b.number maker b.thread.at

-- the words of its block
abbrev pub thread_row : ℕ → Born → List ℕ
thread_row maker b = thread_tag ∷ b.thread.id.thread ∷ b.thread.id.serial ∷ b.number ∷ maker ∷ 0 ∷ 0 ∷ b.line ∷ []

-- they are all that the pass owns
abbrev pub LaidFor : Holder → Born → Type 0
LaidFor k b = (k.own ≡ record { at = b.thread.at; words = thread_row k.view.thread b } ∷ []) × (k.ahead ≡ 0)

-- what its maker knows then; the words that it owned are the block's
abbrev pub with_born : Holder → Born → Holder
with_born k b = record k { view = with_entry k.view b.entry (b.thread ∷ []); blocks = k.blocks ++ thread_block k.view.thread b ∷ []; due = b.line; own = []; ahead = 0; late = [] }

-- the turn is given back with it
abbrev pub StartsInTurn : Born → Me Slot Holder → Me Slot Holder → Type 0
StartsInTurn b m m' = m' ≡ (without_turn (with_born m.0 b), rest m.1)

-- ---- what is answered

-- in a run that the pass knows of no thread can be started
abbrev pub IsFullSeen : View → Type 0
IsFullSeen v = (run : Run) × IsRun v.slots run × runs.Knows v.slots run v × (is_full v.slots run.store v.thread ≡ true)

-- in such a run one can, where so many were started
abbrev pub IsNextSeen : View → ℕ → Type 0
IsNextSeen v started = (run : Run) × IsRun v.slots run × runs.Knows v.slots run v × (is_full v.slots run.store v.thread ≡ false) × (started ≡ length (threads run.store))

-- The reply to the start of the thread of this id, and what it leaves of the pass, which has the turn no more. There are fewer threads than words.
abbrev pub StartReplies : Asking → ℕ → Id → HeldReply → Holder → Holder → Type 0
StartReplies a step id (reply.Started number thread) k k' =
    (thread.sort ≡ sort.Thread) × (thread.id ≡ id)
    × ((started : ℕ) × IsNextSeen k.view started × (started < k.size) × (number ≡ suc started) × ((line : ℕ) × (k' ≡ without_turn (with_born k (born_of step a.call started thread line)))))
StartReplies a step id (reply.Failed fault) k k' = (fault ≡ ThreadLimit) × IsFullSeen k.view × (k' ≡ without_turn (with_plain k (bare_entry step a.call (said (reply.Failed fault)))))
StartReplies a step id r k k' = ⊥

-- Full: the words in use and those of a thread are more than the heap has, and the call is refused with both numbers.
abbrev pub StartAnswers : Asking → ℕ → Held → Answer → Holder → Holder → Type 0
StartAnswers a step (held.Start id body values) (answer.Done r) k k' = StartReplies a step id r k k'
StartAnswers a step (held.Start id body values) (answer.Full used wanted) k k' =
    (wanted ≡ thread_words) × (k.size < used + wanted) × (k' ≡ without_turn (with_full k a.call a.moved used wanted))
StartAnswers a step call ans k k' = ⊥
