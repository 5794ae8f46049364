-- What the turn gives, and what came of a look at it.
use Rattle.std.specs.Prelude.{◌≡◌, ℕ, zero, suc, true, false, List, [], ◌++◌, Option}
use Rattle.rb_model.specs.declared.act.Reply.{Reply}
use Rattle.rb_model.specs.declared.act.Reply.TheVariants as answered
use Rattle.rb_model.specs.declared.call.Call.{Call as Held}
use Rattle.rb_model.specs.declared.moved.MovedItem.{MovedItem}
use Rattle.rb_model.specs.Doing.{said}
use Rattle.rb_model.specs.Log.{Call, Gather, Print, asked, is_print, is_sure}
use Rattle.rb_model.specs.Moving.{items_of}
use Rattle.rb_model.specs.Private.{Item}
use Rattle.rb_shared.specs.Asking.{MayMove}
use Rattle.rb_shared.specs.Lists.{Each}
use Rattle.rb_shared.specs.Step.{AreNew, reply_to, store_behind, waits}
use Rattle.rb_shared.specs.Store.{Store}
use Rattle.thing_store.specs.Counted.{StartsNew}
use Rattle.turn_store.specs.declared.slot.Attempt.{Attempt}
use Rattle.turn_store.specs.declared.slot.Attempt.TheVariants as attempt
use Rattle.turn_store.specs.declared.slot.Slot.{Slot}
use Rattle.shared_run.specs.Run.{Sunk, SinkDid, SinkRefused}

-- a thread of another number
abbrev pub another : ℕ → ℕ
another zero = 1
another (suc n) = 0

-- no thread takes over its own end: another thread need not wait for it either
abbrev pub GathersAnother : Store → ℕ → Call → Type 0
GathersAnother z t (Gather thread) = waits z (another t) (Gather thread) ≡ false
GathersAnother z t call = Unit {0}

-- what a look may rely on
abbrev pub MayTry : Store → ℕ → Held → List MovedItem → Type 0
MayTry z t call ms = AreNew z (items_of ms) × Each (λ (x : Item). MayMove t x.thing) (items_of ms) × StartsNew (z ++ items_of ms) (asked call)

-- the things with those that move
abbrev pub with_moved : Store → List MovedItem → Store
with_moved z ms = z ++ items_of ms

-- the call was made, and need not have waited
abbrev pub IsDone : (slots t : ℕ) → Call → Reply → (with_those behind : Store) → Type 0
IsDone slots t call r w z =
    (waits w t call ≡ false) × GathersAnother w t call × (said r ≡ reply_to slots w t call) × (z ≡ store_behind slots w t call)

module _ {K : Type 0} where
  abbrev pub things_of : Slot K → Store
  things_of y = y.things

module _ {K : Type 0} (told : K → Option (List ℕ)) (faults : K → ℕ) where
  abbrev pub sunk_of : Slot K → Sunk
  sunk_of y = record { told = told y.out; faults = faults y.out; failed = y.failed }

  -- the sink that a store is made with
  abbrev pub begun_of : K → Sunk
  begun_of out = record { told = told out; faults = faults out; failed = false }

  abbrev pub Stays : Slot K → Slot K → Type 0
  Stays y z = (z.things ≡ y.things) × (sunk_of z ≡ sunk_of y)

  abbrev pub Fails : Call → Slot K → Slot K → Type 0
  Fails call y z = (z.things ≡ y.things) × SinkRefused call (sunk_of y) (sunk_of z)

  -- what came of a look: the plain step, or nothing but what the sink did
  abbrev pub Attempts : (slots t : ℕ) → Held → List MovedItem → Attempt → Slot K → Slot K → Type 0
  Attempts slots t call ms (attempt.Done r) y z =
      IsDone slots t (asked call) r (with_moved y.things ms) z.things × SinkDid (asked call) (sunk_of y) (sunk_of z)
  Attempts slots t call ms attempt.Waits y z = Stays y z
  Attempts slots t call ms attempt.SinkFailed y z = (is_print (asked call) ≡ true) × Fails (asked call) y z
  Attempts slots t call ms attempt.Memory y z = (is_sure (asked call) ≡ true → ⊥) × Stays y z

  -- what came of a print
  abbrev pub Prints : List ℕ → List MovedItem → Attempt → Slot K → Slot K → Type 0
  Prints text ms (attempt.Done r) y z = (ms ≡ []) × (r ≡ answered.Done) × (z.things ≡ y.things) × SinkDid (Print text) (sunk_of y) (sunk_of z)
  Prints text ms attempt.Waits y z = ⊥
  Prints text ms attempt.SinkFailed y z = Fails (Print text) y z
  Prints text ms attempt.Memory y z = Stays y z
