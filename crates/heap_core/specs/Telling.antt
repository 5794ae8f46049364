-- What a step of a crate above tells: of the block in which its word lies, and of no other.
use Rattle.std.specs.Prelude.{◌≡◌, ◌==◌, ℕ, []}
use mathlib.Core.Option.{none}
use prog.Atomic.{either}
use Rattle.atomic_table.specs.Table.{Step, Me, Allows, step}
use Rattle.heap_core.specs.Handing.{Plan, Slot}
use Rattle.heap_core.specs.Blocks.{Block, Inside}
use Rattle.heap_core.specs.Passes.{Fits}
use Rattle.heap_core.specs.Rule.{Kept}
use Rattle.heap_core.specs.View.{Holder, Knows}

-- the pass can name a block in which this word lies
abbrev pub CanName : Holder → ℕ → Type 0
CanName k i = (b : Block) × Knows k b × Inside i b

-- P is what a step tells of a block: its word and operands, the seat before it, the number found or stored, and the seat after it
module _ (P : Block → (i first second : ℕ) → Holder → ℕ → Holder → Type 0) where
  -- it is told of whatever known block the word lies in
  abbrev pub ToldOf : (i first second : ℕ) → Holder → ℕ → Holder → Type 0
  ToldOf i first second k n k' = (b : Block) → Knows k b → Inside i b → P b i first second k n k'

  -- and what the pass owns and can name still lies in the heap
  abbrev pub StepTells : {S : Type 0} → Step S → Me S Holder → ℕ → Me S Holder → Type 0
  StepTells st m n m' = (m'.1 ≡ m.1) × (Fits m.0 m.0.size → Fits m'.0 m.0.size) × ToldOf st.word st.first st.second m.0 n m'.0

  -- the law allows the step, whatever the heap is then
  module _ (plan : Plan) (count id : ℕ) (k : Holder) (i : ℕ) where
    abbrev pub MayLoad : Type 0
    MayLoad = Allows {S = Slot} (Kept plan) count id (k, []) i (λ n. n) (StepTells (step count i 0 0 none) (k, []))

    abbrev pub MayStore : ℕ → Type 0
    MayStore new = Allows {S = Slot} (Kept plan) count id (k, []) i (λ _. new) (λ _. StepTells (step count i new 0 none) (k, []) new)

    abbrev pub MayExchange : (old new : ℕ) → Type 0
    MayExchange old new = Allows {S = Slot} (Kept plan) count id (k, []) i (λ n. either (n == old) new n) (StepTells (step count i old new none) (k, []))
