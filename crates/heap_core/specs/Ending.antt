-- What the end of a thread makes of the table of threads.
use Rattle.std.specs.Prelude.{◌≡◌, ◌≢◌, ◌<◌, ◌+◌, ◌==◌, ◌||◌, ℕ, zero, suc, if◌then◌else◌, List, [], ◌∷◌, ◌++◌, length, get_or, Option, Some, None, map}
use Rattle.atomic_table.specs.Table.{Me, rest}
use Rattle.rb_model.specs.declared.value.Id.{Id}
use Rattle.rb_model.specs.declared.value.Ref.{Ref}
use Rattle.rb_model.specs.declared.call.Call.{Call as Held}
use Rattle.rb_model.specs.declared.call.Call.TheVariants as held
use Rattle.rb_model.specs.Ends.{Value, over, told}
use Rattle.rb_model.specs.Log.{Call, End, Entry, plain_entry}
use Rattle.rb_model.specs.Moving.{refs_in_end}
use Rattle.rb_model.specs.Values.{Value as Val, Int, Str}
use Rattle.rb_shared.specs.Lists.{Has, Each}
use Rattle.rb_shared.specs.View.{with_entry}
use Rattle.heap_core.specs.declared.line.Line.{Line}
use Rattle.heap_core.specs.Blocks.{Block, ThreadAt, TextAt, BoxAt, place_of, size_of}
use Rattle.heap_core.specs.Charges.{is_small}
use Rattle.heap_core.specs.Handing.{Handed, Slot}
use Rattle.heap_core.specs.Moment.{Moment, word}
use Rattle.heap_core.specs.Places.{turn_word}
use Rattle.heap_core.specs.Room.{Asking}
use Rattle.heap_core.specs.Rule.{Stands}
use Rattle.heap_core.specs.Threads.{EndIs}
use Rattle.heap_core.specs.Turning.{without_turn}
use Rattle.heap_core.specs.View.{Region, Holder, Busy, Idle, Ends, Knows, busy_at, set_busy, with_busy}

-- the line of this thread says that it has ended
abbrev pub over_line : ℕ → Option Line → Option Line
over_line t None = None
over_line t (Some l) = Some (record { number = l.number; over = l.over || l.number == t })

abbrev pub over_at : ℕ → List (Option Line) → List (Option Line)
over_at t lines = map (over_line t) lines

-- the same of so many lines from the first on
abbrev pub over_front : ℕ → ℕ → List (Option Line) → List (Option Line)
over_front t zero lines = lines
over_front t (suc i) [] = []
over_front t (suc i) (l ∷ lines) = over_line t l ∷ over_front t i lines

-- what is handed on when a thread has ended
abbrev pub ended_by : ℕ → Handed → Handed
ended_by t h = record { sink = h.sink; started = h.started; lines = over_at t h.lines }

-- the call is an end that tells no value
abbrev pub IsPlainEnd : Held → Type 0
IsPlainEnd (held.End how) = told (over how) ≡ []
IsPlainEnd call = ⊥

-- ---- an end that a block tells

-- the result of the own thread is laid, which does not lie at the turn word; and then its state
abbrev pub LaysResult : Block → (i first second : ℕ) → Holder → ℕ → Holder → Type 0
LaysResult (ThreadAt id number maker at) i first second k n k' = (at ≢ turn_word) × ((state : ℕ) × (k' ≡ with_busy k at (Ends state n)))
LaysResult b i first second k n k' = Unit {0}

abbrev pub state_laid : ℕ → Busy → Busy
state_laid state (Ends was result) = Ends state result
state_laid state busy = busy

abbrev pub LaysState : Block → (i first second : ℕ) → Holder → ℕ → Holder → Type 0
LaysState (ThreadAt id number maker at) i first second k n k' = k' ≡ with_busy k at (state_laid n (busy_at at k.doing))
LaysState b i first second k n k' = Unit {0}

-- the thread of the pass has its block at this place
abbrev pub IsOwnThread : Holder → ℕ → Type 0
IsOwnThread k at = (id : Id) × (maker : ℕ) × Knows k (ThreadAt id k.view.thread maker at)

-- the block of a value from a place on, where it has one
abbrev pub value_block : Val → ℕ → List Block
value_block (Str bytes) place = TextAt bytes place ∷ []
value_block (Int n) place = if is_small n then [] else BoxAt n place ∷ []
value_block v place = []

-- that of the value which a call tells that ends a thread
abbrev pub end_blocks : Call → ℕ → List Block
end_blocks (End (Value v)) place = value_block v place
end_blocks call place = []

-- where the first own words begin
abbrev pub own_place : List Region → ℕ
own_place [] = 0
own_place (o ∷ os) = o.at

-- the block stands wherever its words are those of the region
abbrev pub LaidAs : Region → Block → Type 0
LaidAs o b = (place_of b ≡ o.at) × (size_of b ≡ length o.words) × ((m : Moment) → ((i : ℕ) → i < length o.words → word m (o.at + i) ≡ get_or o.words i 0) → Stands m b)

-- the words of these blocks are all that the pass owns
abbrev pub OwnsBlocks : List Region → List Block → Type 0
OwnsBlocks os [] = os ≡ []
OwnsBlocks os (b ∷ bs) = (bs ≡ []) × ((o : Region) × (os ≡ o ∷ []) × LaidAs o b)

-- the call is an end with known references, which these words tell by the blocks that the pass knows and owns
abbrev pub IsEndTold : Holder → Held → (state result : ℕ) → Type 0
IsEndTold k (held.End how) state result =
    Each (λ (r : Ref). Has k.view.known r) (refs_in_end how)
    × OwnsBlocks k.own (end_blocks (End (over how)) (own_place k.own))
    × EndIs (k.blocks ++ end_blocks (End (over how)) (own_place k.own)) state result (over how)
IsEndTold k call state result = ⊥

-- the entry of the end is made, and the own words are the block of its value
abbrev pub with_end : Holder → Entry → ℕ → Holder
with_end k e at = record k {
  view = with_entry k.view e [];
  blocks = k.blocks ++ end_blocks e.call (own_place k.own);
  own = [];
  ahead = 0;
  doing = set_busy (record { at = at; busy = Idle }) k.doing;
  late = [];
}

-- the turn is given back with it
abbrev pub EndsInTurn : Entry → ℕ → Me Slot Holder → Me Slot Holder → Type 0
EndsInTurn e at m m' = m' ≡ (with_end (without_turn m.0) e at, rest m.1)

-- What the end of the own thread leaves of a pass: its state and result are laid, it has the turn no more, and the entry of the end is made.
abbrev pub EndAnswers : Asking → (step at state result : ℕ) → Holder → Holder → Type 0
EndAnswers a step at state result k k' = k' ≡ with_end (without_turn (with_busy k at (Ends state result))) (plain_entry step a.call) at
