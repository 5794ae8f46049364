-- What a look tells of the references that a pass has: which kind of block each names.
use Rattle.std.specs.Prelude.{◌≡◌, ℕ}
use Rattle.atomic_table.specs.Table.{Me}
use Rattle.rb_model.specs.declared.value.Id.{Id}
use Rattle.rb_model.specs.declared.value.Ref.{Ref}
use Rattle.rb_model.specs.declared.value.Sort.{Sort}
use Rattle.rb_model.specs.declared.value.Sort.TheVariants as sort
use Rattle.rb_shared.specs.Lists.{Has}
use Rattle.heap_core.specs.Handing.{Slot}
use Rattle.heap_core.specs.Blocks.{ObjectAt, MutexAt, ThreadAt}
use Rattle.heap_core.specs.View.{Holder, Knows}

-- the pass can name the block of a thing of this sort, which lies here; of lists and hashes there is no kind yet
abbrev pub CanNameAs : Holder → Sort → Id → ℕ → Type 0
CanNameAs k (sort.Object class) id at = Knows k (ObjectAt id at)
CanNameAs k sort.Mutex id at = Knows k (MutexAt id at)
CanNameAs k sort.Thread id at = (number : ℕ) × (maker : ℕ) × Knows k (ThreadAt id number maker at)
CanNameAs k sort.List id at = Unit {0}
CanNameAs k sort.Pairs id at = Unit {0}

-- and so it can of each reference that it has
abbrev pub CanNameAll : Holder → Type 0
CanNameAll k = (r : Ref) → Has k.view.known r → CanNameAs k r.sort r.id r.at

abbrev pub NamesAll : Me Slot Holder → Me Slot Holder → Type 0
NamesAll m m' = (m' ≡ m) × CanNameAll m.0
