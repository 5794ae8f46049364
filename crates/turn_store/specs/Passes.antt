-- The view of a pass.
use Rattle.std.specs.Prelude.{◌≡◌, ℕ, true, List, [], ◌∷◌, Option, None, IfSome, unwrap_or}
use Rattle.rb_model.specs.declared.call.Call.{Call as Held}
use Rattle.rb_model.specs.declared.moved.MovedItem.{MovedItem}
use Rattle.rb_shared.specs.declared.answer.Answer.{Answer}
use Rattle.rb_shared.specs.Answers.{AnswersIn}
use Rattle.rb_shared.specs.History.{History}
use Rattle.rb_shared.specs.View.{View, newborn}
use Rattle.turn_store.specs.Turns.{Never}
use Rattle.turn_store.specs.Holding.{Holder, spent_holder}

abbrev pub holder_of : List Holder → Holder
holder_of [] = spent_holder
holder_of (k ∷ ks) = k

abbrev pub view_of : List Holder → View
view_of ks = (holder_of ks).view

-- a pass of this thread, which does not have the turn, and waits to be split where its last call started a thread
abbrev pub Rests : Holder → ℕ → Option ℕ → Type 0
Rests k t u = (k.live ≡ true) × (k.holding ≡ None) × (k.view.thread ≡ t) × (k.view.unsplit ≡ u)

abbrev pub IsPass : List Holder → ℕ → Option ℕ → Type 0
IsPass ks t u = (ks ≡ holder_of ks ∷ []) × Rests (holder_of ks) t u

-- what a call that moves these things is answered, of the seat before it and behind it
abbrev pub HasAnswered : List Holder → ℕ → Held → List MovedItem → Answer → List Holder → Type 0
HasAnswered old step call moved a new = AnswersIn Never (view_of old) step call moved a moved (view_of new)

-- the pass of the thread that the last call started
abbrev pub HasChild : List Holder → List Holder → Type 0
HasChild old new = IfSome (view_of old).unsplit (λ n. view_of new ≡ newborn (view_of old) n)

-- the history that a front shows
abbrev pub history_in : List Holder → History
history_in ks = unwrap_or (holder_of ks).front (record { events = []; threads = [] })
