-- The array that a storage holds, and what the writes of a storage leave.
use Rattle.std.specs.Prelude.{ℕ, ℤ, [], ◌∷◌, ◌++◌, map, replicate, slice_set, Option, None, Some}
use Rattle.typed_location.specs.declared.flag.Flag.{Flag}
use Rattle.array_strategy.specs.Elements.{Elements, strategy_with}
use Rattle.array_strategy.specs.declared.storage.Strategy.TheVariants as strategy
use Rattle.array_strategy.specs.declared.storage.Peeked.{Peeked}
use Rattle.array_strategy.specs.declared.storage.Peeked.TheVariants as peeked
use Rattle.array_strategy.specs.declared.storage.Store.{Store}
use Rattle.array_strategy.specs.declared.storage.Store.TheVariants.{Empty, Ints, Flags, Anys}

-- Raw integers and flags stand for their items. That flags are held in a byte each is not seen.
abbrev pub stored : {V : Type 0} → (ℤ → V) → (Flag → V) → Store V → Elements V
stored int flag Empty = record { items = []; strategy = strategy.Empty }
stored int flag (Ints ns) = record { items = map int ns.items; strategy = strategy.Ints }
stored int flag (Flags fs) = record { items = map flag fs.items; strategy = strategy.Anys }
stored int flag (Anys vs) = record { items = vs.items; strategy = strategy.Anys }

-- the item that is seen, if any
abbrev pub seen : {V : Type 0} → (ℤ → V) → (Flag → V) → Peeked V → Option V
seen int flag peeked.Nothing = None
seen int flag (peeked.Int n) = Some (int n)
seen int flag (peeked.Flag f) = Some (flag f)
seen int flag (peeked.Item r) = Some r.now

module _ {V : Type 0} (integer : V → Option ℤ) (old : Elements V) where
  -- an array with v in place of the item at place j
  abbrev pub replaced : ℕ → V → Elements V
  replaced j v = record { items = slice_set old.items j v; strategy = strategy_with old.strategy (integer v) }

  -- an array with so many copies of `fill` and then v behind its last item
  abbrev pub filled : ℕ → V → V → Elements V
  filled count fill v = record { items = old.items ++ replicate count fill ++ v ∷ []; strategy = strategy_with (strategy_with old.strategy (integer fill)) (integer v) }
