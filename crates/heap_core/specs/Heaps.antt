-- A heap and its passes, as contracts see them.
use Rattle.std.specs.Prelude.{◌≡◌, ℕ, Option}
use Rattle.std.specs.Option.{option_map}
use denote.Bor.{Bor}
use Rattle.heap_core.specs.declared.act.Act.{Act}
use Rattle.heap_core.specs.declared.pass.Heap.{Heap}
use Rattle.heap_core.specs.declared.pass.HeapPass.{HeapPass}
use Rattle.heap_core.specs.Blocks.{Block}
use Rattle.heap_core.specs.Passes.{asking, holder_of}
use Rattle.heap_core.specs.Room.{Asking}
use Rattle.heap_core.specs.Telling.{MayLoad, MayStore, MayExchange}
use Rattle.heap_core.specs.View.{Holder}

-- what a pass knows
abbrev pub holder : HeapPass → Holder
holder p = holder_of p.badge.views

-- the pass is one of this heap
abbrev pub IsOf : {K : Type 0} → Heap K → HeapPass → Type 0
IsOf heap p = p.badge.table_id ≡ heap.table.shared.table_id

-- the heap of a pass does not change
abbrev pub SameHeap : HeapPass → HeapPass → Type 0
SameHeap p q = q.badge.table_id ≡ p.badge.table_id

-- the call of an act, where there is one
abbrev pub asking_of : Option (Bor Act) → Option Asking
asking_of act = option_map (λ a. asking a.now) act

-- the law allows a step that tells this of the block in which its word lies
module _ (P : Block → (i first second : ℕ) → Holder → ℕ → Holder → Type 0) {K : Type 0} (heap : Heap K) (p : HeapPass) (i : ℕ) where
  abbrev pub AllowsLoad : Type 0
  AllowsLoad = MayLoad P heap.table.shared.key heap.table.shared.table_id.slots p.badge.id (holder p) i

  abbrev pub AllowsStore : ℕ → Type 0
  AllowsStore new = MayStore P heap.table.shared.key heap.table.shared.table_id.slots p.badge.id (holder p) i new

  abbrev pub AllowsExchange : (old new : ℕ) → Type 0
  AllowsExchange old new = MayExchange P heap.table.shared.key heap.table.shared.table_id.slots p.badge.id (holder p) i old new
