-- The rule of a mutex: it is owned by whom its last word names, while that thread goes on.
use Rattle.std.specs.Prelude.{◌≡◌, ℕ, suc, ◌+◌, Some, None}
use Rattle.rb_model.specs.declared.value.Id.{Id}
use Rattle.rb_model.specs.Things.{Mutex}
use Rattle.shared_run.specs.Run.{IsThread}
use Rattle.heap_core.specs.Moment.{Moment, word, thing_at, size_at, owner_in}

abbrev pub mutex_tag : ℕ
mutex_tag = 4

abbrev pub owner_of : ℕ → ℕ
owner_of at = at + 3

pub record MutexStands (m : Moment) (id : Id) (at : ℕ) : Type 0 where
  pub thing : thing_at m id ≡ Some (Mutex (owner_in m (word m (owner_of at))))
  pub tag : word m at ≡ mutex_tag
  pub made_by : word m (at + 1) ≡ id.thread
  pub serial : word m (at + 2) ≡ id.serial
  -- nothing is counted of it, and whom it names is a thread
  pub size : size_at m id ≡ None
  pub who : (t : ℕ) → word m (owner_of at) ≡ suc t → IsThread m.run t
