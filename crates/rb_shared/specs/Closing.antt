-- What a store shows when it is closed.
use Rattle.std.specs.Prelude.{◌≡◌, ◌<◌, ◌⊎◌, ℕ, true, List, [], ◌++◌, length, take, slice_get, Option, Some, None}
use Rattle.std.specs.List.{flat_map}
use Rattle.rb_edge.specs.Edge.{Adds, Rose}
use Rattle.rb_model.specs.Log.{Entry, Refusal, printed}
use Rattle.rb_shared.specs.Lists.{Has}
use Rattle.rb_shared.specs.History.{History, Placed, prints}
use Rattle.rb_shared.specs.Threads.{ThreadLog}

-- The logs of a history are those that are known: each whole log is that of its thread, what is known of another is a front of its log, and each
-- thread of the history is one of them.
pub record Shows (h : History) (ts : List ThreadLog) : Type 0 where
  pub known : (t : ThreadLog) → Has ts t → t.ended ≡ true → (p : Placed) × (slice_get h.threads t.thread ≡ Some p) × (p.log ≡ t.log)
  pub fronts : (t : ThreadLog) → Has ts t → (p : Placed) × (behind : List Entry) × (slice_get h.threads t.thread ≡ Some p) × (p.log.entries ≡ t.log.entries ++ behind)
  pub all : (n : ℕ) (p : Placed) → slice_get h.threads n ≡ Some p → (t : ThreadLog) × Has ts t × (t.thread ≡ n) × (t.ended ≡ true)

-- what all threads were refused
abbrev pub refusals_of : History → List Refusal
refusals_of h = flat_map (λ (p : Placed). p.log.refusals) h.threads

-- a refusal for the sink's failure, which is of a print
abbrev pub IsSinkFailure : Refusal → Type 0
IsSinkFailure r = r.words ≡ None

-- a front of the bytes of one print that was refused, and not the whole of it
abbrev pub IsFront : List Refusal → List ℕ → Type 0
IsFront rs bytes = (r : Refusal) × (n : ℕ) × Has rs r × IsSinkFailure r × (n < length (printed r.call)) × (bytes ≡ take n (printed r.call))

-- What the sink told before, and what it tells now, where it tells: the prints in their order came behind, and, where the sink failed, a front
-- of one print that was refused.
abbrev pub Written : Option (List ℕ) → Option (List ℕ) → History → Type 0
Written before now h = (rest : List ℕ) × ((rest ≡ []) ⊎ IsFront (refusals_of h) rest) × Adds before now (prints h.events ++ rest)

-- where a print was refused, the sink failed since the store was made
abbrev pub Caused : ℕ → ℕ → History → Type 0
Caused before now h = (r : Refusal) → Has (refusals_of h) r → IsSinkFailure r → Rose before now

-- where the heap was full, the words in use and those that were asked for are more than there are
abbrev pub AreFull : (ℕ → ℕ → Type 0) → History → Type 0
AreFull Overflows h = (r : Refusal) → Has (refusals_of h) r → (used wanted : ℕ) → r.words ≡ Some (used, wanted) → Overflows used wanted
