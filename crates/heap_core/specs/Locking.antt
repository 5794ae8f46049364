-- What the steps on a lock tell that is a word alone.
use Rattle.std.specs.Prelude.{◌≡◌, ◌≢◌, ℕ, List}
use Rattle.heap_core.specs.Blocks.{Block, LockAt}
use Rattle.heap_core.specs.View.{Holder, Idle, Locked, with_busy, with_more}

-- a lock is had now, and blocks are learnt: those of the tree where it is the tree's
abbrev pub HasLocked : ℕ → Holder → Holder → Type 0
HasLocked at k k' = (bs : List Block) × (k' ≡ with_more (with_busy k at Locked) bs)

-- the lock is had where its word was 0, and else it is not
abbrev pub TriesLock : Block → (i first second : ℕ) → Holder → ℕ → Holder → Type 0
TriesLock (LockAt at) i first second k n k' = (n ≡ 0 → HasLocked at k k') × (n ≢ 0 → k' ≡ k)
TriesLock b i first second k n k' = Unit {0}

-- it is given back
abbrev pub GivesLock : Block → (i first second : ℕ) → Holder → ℕ → Holder → Type 0
GivesLock (LockAt at) i first second k n k' = k' ≡ with_busy k at Idle
GivesLock b i first second k n k' = Unit {0}
