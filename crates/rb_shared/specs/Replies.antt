-- What sorts of things an act is for, and the replies that it may have.
use Rattle.std.specs.Prelude.{◌≡◌, ◌≤◌, ◌<◌, ◌+◌, ℕ, pos, ◌⊎◌, List, length}
use Rattle.rb_model.specs.declared.fault.Fault.TheVariants.{IndexTooSmall, ArrayTooLong, JoinSelf, LockOwned, UnlockForeign, ThreadLimit}
use Rattle.rb_model.specs.declared.value.Sort.{Sort}
use Rattle.rb_model.specs.declared.value.Sort.TheVariants as sort
use Rattle.rb_model.specs.Values.{Value as Val, Int, False, True}
use Rattle.rb_model.specs.Acts.{Act, GetField, SetField, At, Put, Push, Unshift, Pop, Shift, DeleteAt, KGet, KHas, KPut, KDelete, Clear, Len, Copy, Join, Lock, Unlock, Reply, Value, Elements, Pairs, Done, Started, Ended, Failed}
use Rattle.rb_model.specs.Ends.{End as Ending}
use Rattle.rb_model.specs.Log.{Call, On, Start, Gather, Print, End}
use Rattle.rb_model.specs.Started.{to_thread}
use Rattle.rb_model.specs.Things.{max_elements}

-- whether an act is for things of a sort
abbrev pub Serves : Sort → Act → Type 0
Serves (sort.Object class) (GetField name) = Unit {0}
Serves (sort.Object class) (SetField name v) = Unit {0}
Serves sort.List (At i) = Unit {0}
Serves sort.List (Put i v) = Unit {0}
Serves sort.List (Push v) = Unit {0}
Serves sort.List (Unshift v) = Unit {0}
Serves sort.List Pop = Unit {0}
Serves sort.List Shift = Unit {0}
Serves sort.List (DeleteAt i) = Unit {0}
Serves sort.List Clear = Unit {0}
Serves sort.List Len = Unit {0}
Serves sort.List Copy = Unit {0}
Serves sort.Pairs (KGet k) = Unit {0}
Serves sort.Pairs (KHas k) = Unit {0}
Serves sort.Pairs (KPut k v) = Unit {0}
Serves sort.Pairs (KDelete k) = Unit {0}
Serves sort.Pairs Clear = Unit {0}
Serves sort.Pairs Len = Unit {0}
Serves sort.Pairs Copy = Unit {0}
Serves sort.Thread Join = Unit {0}
Serves sort.Mutex Lock = Unit {0}
Serves sort.Mutex Unlock = Unit {0}
Serves s act = ⊥

abbrev pub IsValue : Reply → Type 0
IsValue r = (v : Val) × (r ≡ Value v)

abbrev pub IsEnded : Reply → Type 0
IsEnded r = (how : Ending) × (r ≡ Ended how)

-- so many elements or pairs as there may be
abbrev pub IsCount : Reply → Type 0
IsCount r = (n : ℕ) × (n ≤ max_elements) × (r ≡ Value (Int (pos n)))

-- the replies that an act on a thing of a sort may have
abbrev pub ActMayGive : Sort → Act → Reply → Type 0
ActMayGive s (GetField name) r = IsValue r
ActMayGive s (SetField name v) r = r ≡ Done
ActMayGive s (At i) r = IsValue r
ActMayGive s (Put i v) r = (r ≡ Done) ⊎ (r ≡ Failed IndexTooSmall) ⊎ (r ≡ Failed ArrayTooLong)
ActMayGive s (Push v) r = (r ≡ Done) ⊎ (r ≡ Failed ArrayTooLong)
ActMayGive s (Unshift v) r = (r ≡ Done) ⊎ (r ≡ Failed ArrayTooLong)
ActMayGive s Pop r = IsValue r
ActMayGive s Shift r = IsValue r
ActMayGive s (DeleteAt i) r = IsValue r
ActMayGive s (KGet k) r = IsValue r
ActMayGive s (KHas k) r = (r ≡ Value False) ⊎ (r ≡ Value True)
ActMayGive s (KPut k v) r = (r ≡ Done) ⊎ (r ≡ Failed ArrayTooLong)
ActMayGive s (KDelete k) r = IsValue r
ActMayGive s Clear r = r ≡ Done
ActMayGive s Len r = IsCount r
ActMayGive sort.Pairs Copy r = (pairs : List (Val × Val)) × (length pairs ≤ max_elements) × (r ≡ Pairs pairs)
ActMayGive s Copy r = (values : List Val) × (length values ≤ max_elements) × (r ≡ Elements values)
ActMayGive s Join r = IsEnded r ⊎ (r ≡ Failed JoinSelf)
ActMayGive s Lock r = (r ≡ Done) ⊎ (r ≡ Failed LockOwned)
ActMayGive s Unlock r = (r ≡ Done) ⊎ (r ≡ Failed UnlockForeign)

-- The replies that a call may have of a thread of this generation, over so many slots. A thread is started only where its own generation is not
-- the last that there may be.
abbrev pub MayGive : (generation slots : ℕ) → Call → Reply → Type 0
MayGive generation slots (On thing act) r = ActMayGive thing.sort act r
MayGive generation slots (Start id body values) r = ((n : ℕ) × (r ≡ Started n (to_thread id)) × (generation + 1 < slots)) ⊎ (r ≡ Failed ThreadLimit)
MayGive generation slots (Gather thread) r = IsEnded r
MayGive generation slots (Print bytes) r = r ≡ Done
MayGive generation slots (End how) r = r ≡ Done
