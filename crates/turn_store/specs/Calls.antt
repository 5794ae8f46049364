-- What a call leaves of a seat.
use Rattle.std.specs.Prelude.{◌≡◌, ℕ, false, List, [], ◌++◌, map, Option, None}
use Rattle.atomic_table.specs.Table.{Me}
use Rattle.rb_model.specs.declared.act.Reply.{Reply}
use Rattle.rb_model.specs.declared.moved.MovedItem.{MovedItem}
use Rattle.rb_model.specs.declared.value.Ref.{Ref}
use Rattle.rb_model.specs.Log.{Call, Entry}
use Rattle.rb_model.specs.Private.{Item}
use Rattle.rb_model.specs.Doing.{said}
use Rattle.rb_model.specs.Moving.{ref_of, refs_in_reply}
use Rattle.rb_shared.specs.declared.answer.Answer.{Answer}
use Rattle.rb_shared.specs.declared.answer.Answer.TheVariants as answer
use Rattle.rb_shared.specs.View.{View, with_entry, with_refused, started_number}
use Rattle.turn_store.specs.Holding.{Holder, released}
use Rattle.turn_store.specs.Turns.{InHand}

module _ {S : Type 0} where
  -- the thread goes on
  abbrev pub IsGoing : Me S Holder → Type 0
  IsGoing m = m.0.view.ended ≡ false

  -- what was in hand became another
  abbrev pub HasEntered : Me S Holder → (S → S → Type 0) → Me S Holder → Type 0
  HasEntered m P m' = InHand m (λ y. InHand m' (λ z. P y z))

  -- nothing is in hand any more, and the view is another
  abbrev pub HasReturned : Me S Holder → View → Me S Holder → Type 0
  HasReturned m v m' = m' ≡ (released m.0 v, [])

  abbrev pub HasLeft : Me S Holder → Entry → List Ref → Me S Holder → Type 0
  HasLeft m e refs m' = HasReturned m (with_entry m.0.view e refs) m'

  abbrev pub HasRefused : Me S Holder → Call → List Item → Me S Holder → Type 0
  HasRefused m call moved m' = HasReturned m (with_refused m.0.view call moved None) m'

-- the references that a call tells: those of its reply, and of what moved with it
abbrev pub refs_of : Reply → List MovedItem → List Ref
refs_of r moved = refs_in_reply r ++ map ref_of moved

-- the thread that an answer says was started
abbrev pub started_in : Answer → Option ℕ
started_in (answer.Done r) = started_number (said r)
started_in a = None
