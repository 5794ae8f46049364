-- What a thread asked of what is shared, and what it was answered.
use Rattle.std.specs.Prelude.{◌≡◌, ℕ, Bool, true, false, ◌||◌, List, [], ◌∷◌, ◌++◌, length, map, Option, Some, None}
use Rattle.std.specs.List.{flat_map}
use Rattle.rb_model.specs.declared.value.Id.{Id}
use Rattle.rb_model.specs.declared.call.Call.{Call as Held}
use Rattle.rb_model.specs.declared.call.Call.TheVariants as held
use Rattle.rb_model.specs.declared.call.Answer.{Answer}
use Rattle.rb_model.specs.declared.call.Answer.TheVariants as answer
use Rattle.rb_model.specs.Values.{Value as Val, Reference, plain}
use Rattle.rb_model.specs.Acts.{Act, Reply, Done}
use Rattle.rb_model.specs.Doing.{doing}
use Rattle.rb_model.specs.Ends.{End as Ending, over}
use Rattle.rb_model.specs.Immediates.{reference}
use Rattle.rb_model.specs.Private.{Item}

-- An act on a shared thing; the start of a thread, whose thing has this id, with the body that it runs and what that is given; the end of a
-- thread that is taken over by the one that started it, at that one's own end; the print of bytes; or the last call of a thread.
pub data Call : Type 0 where
  On : (thing : Reference) (act : Act) → Call
  Start : (thing : Id) (body : ℕ) (values : List Val) → Call
  Gather : (thread : Reference) → Call
  Print : (bytes : List ℕ) → Call
  End : (how : Ending) → Call

-- what a call of the code asks
abbrev pub asked : Held → Call
asked (held.On thing act) = On (reference thing) (doing act)
asked (held.Start thing body values) = Start thing body (map plain values.items)
asked (held.Gather thread) = Gather (reference thread)
asked (held.Print bytes) = Print bytes
asked (held.End e) = End (over e)

-- One call of a thread: how many steps it had begun, what was asked, the things that moved with it, and the reply. Whose it is stands beside it.
pub record Entry : Type 0 where
  pub step : ℕ
  pub call : Call
  pub moved : List Item
  pub reply : Reply

-- A call that was refused, with the things that would have moved, and how many entries stood before it. Where the shared heap was full, the
-- words in use and those that were asked for; where the sink failed, none.
pub record Refusal : Type 0 where
  pub call : Call
  pub moved : List Item
  pub before : ℕ
  pub words : Option (ℕ × ℕ)

-- the calls that were done, and those that were refused
pub record Log : Type 0 where
  pub entries : List Entry
  pub refusals : List Refusal

abbrev pub fresh : Log
fresh = record { entries = []; refusals = [] }

-- one more entry
abbrev pub logged : Log → Entry → Log
logged l e = record { entries = l.entries ++ e ∷ []; refusals = l.refusals }

-- one more refusal
abbrev pub with_refusal : Log → Call → List Item → Option (ℕ × ℕ) → Log
with_refusal l call moved words =
    record { entries = l.entries; refusals = l.refusals ++ record { call = call; moved = moved; before = length l.entries; words = words } ∷ [] }

-- since the sink failed
abbrev pub refused : Log → Call → List Item → Log
refused l call moved = with_refusal l call moved None

-- since the shared heap was full
abbrev pub filled : Log → Call → List Item → (used asked : ℕ) → Log
filled l call moved used asked = with_refusal l call moved (Some (used, asked))

-- the step of the last entry
abbrev pub last_step : List Entry → ℕ
last_step [] = 0
last_step (e ∷ []) = e.step
last_step (e ∷ f ∷ es) = last_step (f ∷ es)

-- the entry of a call of the main thread that moves nothing and is done
abbrev pub plain_entry : ℕ → Call → Entry
plain_entry step call = record { step = step; call = call; moved = []; reply = Done }

abbrev pub printed : Call → List ℕ
printed (Print bytes) = bytes
printed call = []

-- the bytes of the prints, in order
abbrev pub prints : List Entry → List ℕ
prints entries = flat_map (λ (e : Entry). printed e.call) entries

abbrev pub is_end : Call → Bool
is_end (End how) = true
is_end call = false

-- whether a thread has ended
abbrev pub has_end : List Entry → Bool
has_end [] = false
has_end (e ∷ es) = is_end e.call || has_end es

-- an end that the store can always take, since its room was taken before: one that is no value
abbrev pub is_sure : Call → Bool
is_sure (End (Rattle.rb_model.specs.Ends.Value v)) = false
is_sure (End how) = true
is_sure call = false

abbrev pub is_print : Call → Bool
is_print (Print bytes) = true
is_print call = false

-- what each answer leaves
abbrev pub Answers : Answer → ℕ → Call → Log → Log → Type 0
Answers answer.Done step call old new = new ≡ logged old (plain_entry step call)
Answers answer.SinkFailed step call old new = (is_print call ≡ true) × (new ≡ refused old call [])
Answers answer.Memory step call old new = new ≡ old
