-- What the answers of a store say, and the view behind them.
use Rattle.std.specs.Prelude.{◌≡◌, ℕ, true, List, [], ◌∷◌, ◌++◌, map, Some, None}
use Rattle.rb_model.specs.declared.call.Call.{Call as Held}
use Rattle.rb_model.specs.declared.moved.MovedItem.{MovedItem}
use Rattle.rb_model.specs.Acts.{Reply}
use Rattle.rb_model.specs.Doing.{said}
use Rattle.rb_model.specs.Log.{Entry, asked, is_print, is_sure}
use Rattle.rb_model.specs.Moving.{items_of, ref_of, refs_in_reply}
use Rattle.rb_shared.specs.declared.answer.Answer.{Answer}
use Rattle.rb_shared.specs.declared.answer.Answer.TheVariants as answer
use Rattle.rb_shared.specs.declared.answer.Quick.{Quick}
use Rattle.rb_shared.specs.declared.answer.Quick.TheVariants as quick
use Rattle.rb_shared.specs.Asking.{may_fill}
use Rattle.rb_shared.specs.Replies.{MayGive}
use Rattle.rb_shared.specs.View.{View, ask_of, asking, unasked, with_entry, with_refused}

-- the entry of a call that was done
abbrev pub entry_of : ℕ → Held → List MovedItem → Reply → Entry
entry_of step call moved r = record { step = step; call = asked call; moved = items_of moved; reply = r }

-- the things that move are the same, each laid at its place
abbrev pub AreLaid : List MovedItem → List MovedItem → Type 0
AreLaid [] [] = Unit {0}
AreLaid [] (n ∷ ns) = ⊥
AreLaid (m ∷ ms) [] = ⊥
AreLaid (m ∷ ms) (n ∷ ns) = ((at : ℕ) × (n ≡ record m { at = at })) × AreLaid ms ns

-- The answer of `call`, with the things that moved before it and behind it. Done: one entry, and the pass knows what the reply tells and what
-- moved. Full: one refusal with the words in use and those asked for, which together are more than there are. SinkFailed: one refusal, of a
-- print. Memory: nothing. An end that is no value is neither Full nor Memory.
abbrev pub AnswersIn : (Overflows : ℕ → ℕ → Type 0) → View → ℕ → Held → List MovedItem → Answer → List MovedItem → View → Type 0
AnswersIn Overflows v step call ms (answer.Done r) ms' w =
    (w ≡ with_entry v (entry_of step call ms (said r)) (refs_in_reply r ++ map ref_of ms')) × AreLaid ms ms' × MayGive v.generation v.slots (asked call) (said r)
AnswersIn Overflows v step call ms (answer.Full used wanted) ms' w =
    (w ≡ with_refused v (asked call) (items_of ms) (Some (used, wanted))) × (ms' ≡ ms) × Overflows used wanted × (may_fill (asked call) ≡ true)
AnswersIn Overflows v step call ms answer.SinkFailed ms' w = (w ≡ with_refused v (asked call) (items_of ms) None) × (ms' ≡ ms) × (is_print (asked call) ≡ true)
AnswersIn Overflows v step call ms answer.Memory ms' w = (w ≡ unasked v) × (ms' ≡ ms) × (is_sure (asked call) ≡ true → ⊥)

-- The answer of `quick`. Done: one entry. Else the call may be asked by `call`.
abbrev pub QuickIn : View → ℕ → Held → Quick → View → Type 0
QuickIn v step call (quick.Done r) w = (w ≡ with_entry v (entry_of step call [] (said r)) (refs_in_reply r)) × MayGive v.generation v.slots (asked call) (said r)
QuickIn v step call q w = w ≡ asking v (ask_of step (asked call))
