-- What the steps on a mutex tell. They are made under the turn, whose table tells which threads go on.
use Rattle.std.specs.Prelude.{◌≡◌, ◌≢◌, ◌⊎◌, ◌==◌, ◌&&◌, ℕ, zero, suc, Bool, false, true, not, if◌then◌else◌, List, [], Option, Some, None}
use Rattle.std.specs.List.{list_any}
use Rattle.rb_model.specs.declared.value.Id.{Id}
use Rattle.rb_model.specs.declared.act.Act.{Act as HeldAct}
use Rattle.rb_model.specs.declared.act.Reply.{Reply as HeldReply}
use Rattle.rb_model.specs.declared.value.Ref.{Ref}
use Rattle.rb_model.specs.Immediates.{reference}
use Rattle.rb_model.specs.declared.call.Call.{Call as Held}
use Rattle.rb_model.specs.declared.call.Call.TheVariants as held
use Rattle.rb_model.specs.Acts.{Act, Lock, Unlock, Reply}
use Rattle.rb_model.specs.Doing.{doing, said}
use Rattle.rb_model.specs.Log.{Call, On, Entry}
use Rattle.rb_model.specs.Things.{Mutex, mutex_gives, owner_behind}
use Rattle.rb_model.specs.Values.{Reference}
use Rattle.rb_shared.specs.declared.answer.Answer.{Answer}
use Rattle.rb_shared.specs.declared.answer.Answer.TheVariants as answer
use Rattle.rb_shared.specs.Replies.{MayGive}
use Rattle.rb_shared.specs.Step.{waits, waits_on}
use Rattle.rb_shared.specs.Store.{found}
use Rattle.rb_shared.specs.View.{View}
use Rattle.shared_run.specs.Run.{Run, IsRun}
use Rattle.shared_run.specs.Run as runs
use Rattle.heap_core.specs.declared.deed.Deed.{Deed}
use Rattle.heap_core.specs.declared.line.Line.{Line}
use Rattle.heap_core.specs.Handing.{Handed}
use Rattle.heap_core.specs.Blocks.{Block, MutexAt}
use Rattle.heap_core.specs.Room.{Asking}
use Rattle.heap_core.specs.View.{Holder, Knows}
use Rattle.heap_core.specs.Turns.{HasTurn}
use Rattle.heap_core.specs.Turning.{with_plain, without_turn}

-- ---- owners

-- by its line, the thread of this number goes on
abbrev pub is_going : ℕ → Option Line → Bool
is_going t None = false
is_going t (Some l) = l.number == t && not l.over

abbrev pub goes : List (Option Line) → ℕ → Bool
goes lines t = list_any (is_going t) lines

-- whom an owner word names, by the table
abbrev pub owner_told : List (Option Line) → ℕ → Option ℕ
owner_told lines zero = None
owner_told lines (suc t) = if goes lines t then Some t else None

-- the word that names an owner
abbrev pub owner_word : Option ℕ → ℕ
owner_word None = 0
owner_word (Some t) = suc t

-- ---- what the steps tell

-- there is a run that the pass knows of, in which the mutex has the owner whom the table tells
abbrev pub OwnerSeen : Holder → Id → ℕ → Type 0
OwnerSeen k id n = (h : Handed) → HasTurn k h false
    → (run : Run) × IsRun k.view.slots run × runs.Knows k.view.slots run k.view × (found run.store id ≡ Some (Mutex (owner_told h.lines n)))

-- the owner word was loaded
abbrev pub LooksOwner : Block → (i first second : ℕ) → Holder → ℕ → Holder → Type 0
LooksOwner (MutexAt id at) i first second k n k' = (k' ≡ k) × OwnerSeen k id n
LooksOwner b i first second k n k' = Unit {0}

-- it was exchanged, with this entry
abbrev pub SetsOwner : Entry → Block → (i first second : ℕ) → Holder → ℕ → Holder → Type 0
SetsOwner e (MutexAt id at) i first second k n k' = (n ≡ first → k' ≡ with_plain k e) × (n ≢ first → k' ≡ k)
SetsOwner e b i first second k n k' = Unit {0}

-- ---- what a call on a mutex is answered

-- the entry of a call that moves nothing
abbrev pub bare_entry : ℕ → Call → Reply → Entry
bare_entry step call r = record { step = step; call = call; moved = []; reply = r }

-- the same as code has it
abbrev pub entry_on : ℕ → Ref → HeldAct → HeldReply → Entry
entry_on step thing act r = bare_entry step (On (reference thing) (doing act)) (said r)

-- that of an act on a mutex with this owner
abbrev pub owning_entry : (t step : ℕ) → Reference → Act → Option ℕ → Entry
owning_entry t step thing act owner = bare_entry step (On thing act) (mutex_gives t act owner)

-- the act is of the two that mutexes serve
abbrev pub IsOwningAct : Act → Type 0
IsOwningAct act = (act ≡ Lock) ⊎ (act ≡ Unlock)

-- the call is one of these, on a mutex that the pass can name
abbrev pub IsOwning : Holder → Held → Type 0
IsOwning k (held.On thing act) = IsOwningAct (doing act) × Knows k (MutexAt thing.id thing.at)
IsOwning k call = ⊥

-- what such an act makes of an owner, and what it gives
abbrev pub IsDeed : ℕ → Act → Option ℕ → Deed → Type 0
IsDeed t act owner d = (waits_on t (Mutex owner) act ≡ false) × (d.owner ≡ owner_behind t act owner) × (said d.reply ≡ mutex_gives t act owner)

-- the call had to wait, in a run that the pass knows of
abbrev pub MustWait : View → Call → Type 0
MustWait v call = (run : Run) × IsRun v.slots run × runs.Knows v.slots run v × (waits run.store v.thread call ≡ true)

-- What is answered, and what it leaves of the pass, which has the turn no more. None: it had to wait, and there is no entry.
abbrev pub OwningAnswers : Asking → ℕ → Option Answer → Holder → Holder → Type 0
OwningAnswers a step None k k' = MustWait k.view a.call × (k' ≡ without_turn k)
OwningAnswers a step (Some (answer.Done r)) k k' = (k' ≡ without_turn (with_plain k (bare_entry step a.call (said r)))) × MayGive k.view.generation k.view.slots a.call (said r)
OwningAnswers a step (Some answer.SinkFailed) k k' = ⊥
OwningAnswers a step (Some (answer.Full used wanted)) k k' = ⊥
OwningAnswers a step (Some answer.Memory) k k' = ⊥
