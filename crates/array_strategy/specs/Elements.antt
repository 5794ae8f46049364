-- What a contract sees of an array: its items, and the storage strategy that they are held by.
use Rattle.std.specs.Prelude.{◌≡◌, ◌⊎◌, Bool, is_some, ℕ, suc, ◌-◌, ◌<◌, nat_lt, if◌then◌else◌, ℤ, pos, negsuc, List, [], ◌∷◌, ◌++◌, length, All, take, drop, replicate, slice_get, slice_set, option_and_then, Option, None, Some, IsSomeAnd}
use Rattle.std.specs.List.{list_all, remove}
use Rattle.std.specs.Option.{option_map_or}
use Rattle.typed_location.specs.declared.flag.Flag.{Flag}
use Rattle.array_strategy.specs.declared.storage.Strategy.{Strategy}
use Rattle.array_strategy.specs.declared.storage.Strategy.TheVariants.{Empty, Ints, Anys}

-- the items in order, and the strategy
pub record Elements (V : Type 0) : Type 0 where
  pub items : List V
  pub strategy : Strategy

-- The strategy of an array that takes an item in, by the integer that the item stands for, if any. It never turns back.
abbrev pub strategy_with : Strategy → Option ℤ → Strategy
strategy_with Empty None = Anys
strategy_with Empty (Some n) = Ints
strategy_with Ints None = Anys
strategy_with Ints (Some n) = Ints
strategy_with Anys found = Anys

-- the place that an index names among n items; a negative one counts from the end
abbrev pub place_of : ℤ → ℕ → Option ℕ
place_of (pos i) n = Some i
place_of (negsuc i) n = if nat_lt i n then Some (n - suc i) else None

module _ {V : Type 0} where
  -- an item that stands for an integer
  abbrev pub IsIntegerBy : (ℤ → V) → V → Type 0
  IsIntegerBy int v = (n : ℤ) × (v ≡ int n)

  -- an array that holds its items as raw integers
  pub record IsRaw (int : ℤ → V) (array : Elements V) : Type 0 where
    pub strategy : array.strategy ≡ Ints
    pub items : All (IsIntegerBy int) array.items

  -- an item that stands for a flag
  abbrev pub IsFlagBy : (Flag → V) → V → Type 0
  IsFlagBy flag v = (f : Flag) × (v ≡ flag f)

  -- an array of flags alone that is not held as raw integers
  pub record IsFlags (flag : Flag → V) (array : Elements V) : Type 0 where
    pub strategy : array.strategy ≡ Anys
    pub items : All (IsFlagBy flag) array.items

  -- no items
  abbrev pub empty : Elements V
  empty = record { items = []; strategy = Empty }

  -- whether all items stand for integers
  abbrev pub all_integers : (V → Option ℤ) → List V → Bool
  all_integers integer xs = list_all (λ v. is_some (integer v)) xs

  -- whether all items stand for flags
  abbrev pub all_flags : (V → Option Flag) → List V → Bool
  all_flags flag_of xs = list_all (λ v. is_some (flag_of v)) xs

  -- the strategy of an array that is made of items: raw where all stand for integers
  abbrev pub strategy_of : (V → Option ℤ) → List V → Strategy
  strategy_of integer [] = Empty
  strategy_of integer (v ∷ vs) = if all_integers integer (v ∷ vs) then Ints else Anys

  abbrev pub of_items : (V → Option ℤ) → List V → Elements V
  of_items integer xs = record { items = xs; strategy = strategy_of integer xs }

  -- the item at an index
  abbrev pub item_at : List V → ℤ → Option V
  item_at xs i = option_and_then (slice_get xs) (place_of i (length xs))

  -- the items without the one at an index
  abbrev pub without_item : List V → ℤ → List V
  without_item xs i = option_map_or (remove xs) (place_of i (length xs)) xs

  -- The item at an index gave way to v, and no other item changed.
  abbrev pub IsSetAt : List V → ℤ → V → List V → Type 0
  IsSetAt xs i v ys = IsSomeAnd (place_of i (length xs)) (λ j. (j < length xs) × (ys ≡ slice_set xs j v))

  -- whether there is an item at an index
  abbrev pub HasItem : List V → ℤ → Type 0
  HasItem xs i = IsSomeAnd (place_of i (length xs)) (λ j. j < length xs)

  -- the items with v at place j, first filled up to there
  abbrev pub with_item : List V → ℕ → V → V → List V
  with_item xs j v fill = take j (xs ++ replicate (j - length xs) fill) ++ v ∷ drop (suc j) xs

  module _ (integer : V → Option ℤ) (old : Elements V) where
    -- an array with v behind its last item
    abbrev pub pushed : V → Elements V
    pushed v = record { items = old.items ++ v ∷ []; strategy = strategy_with old.strategy (integer v) }

    -- an array with v before its first item
    abbrev pub unshifted : V → Elements V
    unshifted v = record { items = v ∷ old.items; strategy = strategy_with old.strategy (integer v) }

    -- the strategy of an array that is filled up to place j
    abbrev pub filled_strategy : ℕ → V → Strategy
    filled_strategy j fill = if nat_lt (length old.items) j then strategy_with old.strategy (integer fill) else old.strategy

    -- an array with v at place j, first filled up to there
    abbrev pub put_at : ℕ → V → V → Elements V
    put_at j v fill = record { items = with_item old.items j v fill; strategy = strategy_with (filled_strategy j fill) (integer v) }

  module _ (int : ℤ → V) (integer : V → Option ℤ) (flag : Flag → V) (flag_of : V → Option Flag) (old : Elements V) where
    -- an item of another kind comes among items of one kind alone: v is no integer and they are raw ones, or v is no flag and they are flags
    abbrev pub Widens : V → Type 0
    Widens v = (IsRaw int old × (integer v ≡ None)) ⊎ (IsFlags flag old × (flag_of v ≡ None))

    -- a put of v at an index may ask for memory: the list grows, or it is widened
    abbrev pub MayNeedMemory : ℤ → V → Type 0
    MayNeedMemory i v = IsSomeAnd (place_of i (length old.items)) (λ j. j < length old.items → Widens v)
