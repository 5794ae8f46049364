-- What is known of a thread.
use Rattle.std.specs.Prelude.{◌≡◌, ℕ, Bool, true, List}
use Rattle.rb_model.specs.Values.{Reference}
use Rattle.rb_model.specs.Log.{Log}
use Rattle.rb_model.specs.Started.{started}
use Rattle.rb_shared.specs.Lists.{Has}

-- its log so far, and whether it has ended
pub record ThreadLog : Type 0 where
  pub thread : ℕ
  pub log : Log
  pub ended : Bool

-- the whole log of thread n is among these
abbrev pub HasEnded : List ThreadLog → ℕ → Type 0
HasEnded ts n = (t : ThreadLog) × Has ts t × (t.thread ≡ n) × (t.ended ≡ true)

-- each thread that a whole log among these started has its whole log among them
abbrev pub AllGathered : List ThreadLog → Type 0
AllGathered ts = (t : ThreadLog) → Has ts t → t.ended ≡ true → (n : ℕ) (thread : Reference) → Has (started t.log.entries) (n, thread) → HasEnded ts n
