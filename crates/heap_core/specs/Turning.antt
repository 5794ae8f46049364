-- What the steps on the turn word tell.
use Rattle.std.specs.Prelude.{◌≡◌, ◌≢◌, ℕ, Bool, true, false, List, [], ◌∷◌, Option, Some, None}
use Rattle.atomic_table.specs.Table.{Me, rest}
use Rattle.rb_model.specs.declared.act.Reply.TheVariants as reply
use Rattle.rb_model.specs.Log.{Call, Print, Entry, plain_entry}
use Rattle.rb_model.specs.Private.{Item}
use Rattle.rb_shared.specs.declared.answer.Answer.{Answer}
use Rattle.rb_shared.specs.declared.answer.Answer.TheVariants as answer
use Rattle.rb_shared.specs.View.{with_entry, with_refused}
use Rattle.shared_run.specs.Run.{SinkDid, SinkRefused}
use Rattle.heap_core.specs.Places.{turn_word}
use Rattle.heap_core.specs.Handing.{Handed, Slot}
use Rattle.heap_core.specs.Room.{Asking}
use Rattle.heap_core.specs.Turns.{HasTurn}
use Rattle.heap_core.specs.View.{Holder, Busy, Idle, Turned, busy_at, with_busy, with_view}

-- the turn is tried: it is had where its word was 0, and then the slot is out with what is handed on
abbrev pub TriesTurn : Me Slot Holder → ℕ → Me Slot Holder → Type 0
TriesTurn m n m' = (n ≡ 0 → (h : Handed) × (m' ≡ (with_busy m.0 turn_word (Turned h true), (0, Some h) ∷ m.1))) × (n ≢ 0 → m' ≡ m)

-- the pass has the turn with this, and the slot is at home
abbrev pub with_turn : Holder → Handed → Holder
with_turn k h = with_busy k turn_word (Turned h false)

-- what a try leaves of a seat: the turn is had with what was handed on, or nothing changed
abbrev pub HasTried : Option Handed → Holder → Holder → Type 0
HasTried None k k' = k' ≡ k
HasTried (Some h) k k' = k' ≡ with_turn k h

-- the slot is out, or at home
abbrev pub out_as : Bool → Busy → Busy
out_as out (Turned h was) = Turned h out
out_as out busy = busy

abbrev pub with_out : Holder → Bool → Holder
with_out k out = with_busy k turn_word (out_as out (busy_at turn_word k.doing))

-- the slot is laid home, and taken from there again
abbrev pub LaysSlot : Me Slot Holder → Me Slot Holder → Type 0
LaysSlot m m' = m' ≡ (with_out m.0 false, rest m.1)

abbrev pub TakesSlot : Me Slot Holder → Me Slot Holder → Type 0
TakesSlot m m' = m' ≡ (with_out m.0 true, (0, None) ∷ m.1)

-- ---- the turn is given back

-- the pass has the turn no more
abbrev pub without_turn : Holder → Holder
without_turn k = with_busy k turn_word Idle

-- an entry is made that publishes nothing and tells nothing
abbrev pub with_plain : Holder → Entry → Holder
with_plain k e = record k { view = with_entry k.view e []; late = [] }

-- the sink refused a call
abbrev pub with_sink_failed : Holder → Call → List Item → Holder
with_sink_failed k call moved = with_view k (with_refused k.view call moved None)

-- with neither, with an entry, with a refusal
abbrev pub GivesTurn : Me Slot Holder → Me Slot Holder → Type 0
GivesTurn m m' = m' ≡ (without_turn m.0, rest m.1)

abbrev pub MakesInTurn : Entry → Me Slot Holder → Me Slot Holder → Type 0
MakesInTurn e m m' = m' ≡ (without_turn (with_plain m.0 e), rest m.1)

abbrev pub RefusesInTurn : Call → List Item → Me Slot Holder → Me Slot Holder → Type 0
RefusesInTurn call moved m m' = m' ≡ (without_turn (with_sink_failed m.0 call moved), rest m.1)

-- ---- prints

-- a pass that owns no words, and has published none ahead of an entry
abbrev pub IsBare : Holder → Type 0
IsBare k = (k.own ≡ []) × (k.ahead ≡ 0)

-- the table of threads is as it was
abbrev pub SameTable : Handed → Handed → Type 0
SameTable h g = (g.lines ≡ h.lines) × (g.started ≡ h.started)

-- what was handed on, but for the sink, which took a text
abbrev pub HasTaken : List ℕ → Holder → Handed → Type 0
HasTaken bytes k g = (h : Handed) × HasTurn k h false × SameTable h g × SinkDid (Print bytes) h.sink g.sink

-- or refused it
abbrev pub HasFailed : List ℕ → Holder → Handed → Type 0
HasFailed bytes k g = (h : Handed) × HasTurn k h false × SameTable h g × SinkRefused (Print bytes) h.sink g.sink

-- what a print is answered, and what it leaves of its pass, which has the turn no more: where the sink took it there is its entry, else it is refused
abbrev pub PrintAnswers : Asking → ℕ → Answer → Holder → Holder → Type 0
PrintAnswers a step (answer.Done r) k k' = (r ≡ reply.Done) × (k' ≡ without_turn (with_plain k (plain_entry step a.call)))
PrintAnswers a step answer.SinkFailed k k' = k' ≡ without_turn (with_sink_failed k a.call a.moved)
PrintAnswers a step (answer.Full used wanted) k k' = ⊥
PrintAnswers a step answer.Memory k k' = ⊥
