-- How a thread's own log and its private store go on by a call on what is shared.
use Rattle.std.specs.Prelude.{◌≡◌, ℕ, List, [], map}
use Rattle.rb_model.specs.declared.call.Served.{Served}
use Rattle.rb_model.specs.declared.call.Served.TheVariants as served
use Rattle.rb_model.specs.declared.value.Value.{Value as Held}
use Rattle.rb_model.specs.Values.{Value as Val, plain}
use Rattle.rb_model.specs.Acts.{handed}
use Rattle.rb_model.specs.Doing.{said}
use Rattle.rb_model.specs.Ends.{told}
use Rattle.rb_model.specs.Log.{Log, Call, On, Start, End, logged, filled}
use Rattle.rb_model.specs.Private.{Private, Item, Leaves}
use Rattle.rb_model.specs.Started.{next_thread}

-- the values that a call hands over
abbrev pub handed_by : Call → List Val
handed_by (On thing act) = handed act
handed_by (Start thing body values) = values
handed_by (End how) = told how
handed_by call = []

-- the start of the next thread, which runs the body of a number with these values
abbrev pub starting : Private → Log → ℕ → List Held → Call
starting own log body values = Start (next_thread own.thread log) body (map plain values)

-- A call at a step is served so. It is done: one entry, and what it hands over moves. Or the shared heap had no room: one refusal, with what would
-- have moved, which stays. Or memory is wanted, and nothing is done.
abbrev pub IsServed : Served → (step : ℕ) → Call → (old new : Log) → (own own' : Private) → Type 0
IsServed (served.Done reply) step call old new own own' =
    (moved : List Item) × Leaves own (handed_by call) moved own' × (new ≡ logged old (record { step = step; call = call; moved = moved; reply = said reply }))
IsServed (served.Full used asked) step call old new own own' =
    (own' ≡ own) × ((moved : List Item) × (left : Private) × Leaves own (handed_by call) moved left × (new ≡ filled old call moved used asked))
IsServed served.Memory step call old new own own' = (own' ≡ own) × (new ≡ old)
