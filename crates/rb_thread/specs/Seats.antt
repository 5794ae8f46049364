-- What a call is answered, and the view behind it.
use Rattle.std.specs.Prelude.{◌≡◌, ℕ, true, List, ◌++◌, map, Some, None}
use Rattle.rb_model.specs.declared.call.Call.{Call as Held}
use Rattle.rb_model.specs.declared.moved.MovedItem.{MovedItem}
use Rattle.rb_model.specs.declared.value.Ref.{Ref}
use Rattle.rb_model.specs.Doing.{said}
use Rattle.rb_model.specs.Log.{asked, is_print, is_sure}
use Rattle.rb_model.specs.Moving.{items_of, ref_of, refs_in_reply}
use Rattle.rb_model.specs.Private.{Private}
use Rattle.rb_shared.specs.declared.answer.Answer.{Answer}
use Rattle.rb_shared.specs.declared.answer.Answer.TheVariants as answer
use Rattle.rb_shared.specs.Answers.{AreLaid, entry_of}
use Rattle.rb_shared.specs.Asking.{may_fill}
use Rattle.rb_shared.specs.Replies.{MayGive}
use Rattle.publish_barrier.specs.Known.{with_all_noted}
use Rattle.publish_barrier.specs.Leaving.{without}
use Rattle.rb_shared.specs.View.{View, unasked, with_entry, with_refused}

-- The answer to a call with these things, where they are behind it, and the view then. Done: one entry, and the pass knows what the reply tells and
-- what moved. Full: one refusal, of a call that may need room. SinkFailed: one refusal, of a print. Memory: nothing, and the call was no end that the
-- store can always take.
abbrev pub Answered : View → ℕ → Held → List MovedItem → Answer → List MovedItem → View → Type 0
Answered v step call ms (answer.Done r) ms' w =
    (w ≡ with_entry v (entry_of step call ms (said r)) (refs_in_reply r ++ map ref_of ms')) × MayGive v.generation v.slots (asked call) (said r) × AreLaid ms ms'
Answered v step call ms (answer.Full used wanted) ms' w = (w ≡ with_refused v (asked call) (items_of ms) (Some (used, wanted))) × (may_fill (asked call) ≡ true) × (ms' ≡ ms)
Answered v step call ms answer.SinkFailed ms' w = (w ≡ with_refused v (asked call) (items_of ms) None) × (is_print (asked call) ≡ true) × (ms' ≡ ms)
Answered v step call ms answer.Memory ms' w = (w ≡ unasked v) × (is_sure (asked call) ≡ true → ⊥) × (ms' ≡ ms)

-- Where a call was done, what moved has left the private things, and it is noted. Else they are as they were.
abbrev pub LeavesBy : Answer → (ms ms' : List MovedItem) → Private → List Ref → Private → List Ref → Type 0
LeavesBy (answer.Done r) ms ms' h refs h' refs' = (h' ≡ without h (items_of ms)) × (refs' ≡ with_all_noted refs (map ref_of ms'))
LeavesBy a ms ms' h refs h' refs' = (h' ≡ h) × (refs' ≡ refs)

-- a call was answered with these things, and so was done with them
abbrev pub Hands : View → ℕ → Held → List MovedItem → Private → List Ref → Answer → View → Private → List Ref → Type 0
Hands v step call ms h refs a w h' refs' = (ms' : List MovedItem) × Answered v step call ms a ms' w × LeavesBy a ms ms' h refs h' refs'
