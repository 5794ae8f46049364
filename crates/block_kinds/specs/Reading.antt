-- What a word names for a pass, and what is loaded by it.
use Rattle.std.specs.Prelude.{◌≡◌, ◌<◌, ◌⊎◌, ℕ, ◌+◌, ◌-◌, ◌^◌, FitsSigned, List, get_or, Some}
use Rattle.std.specs.Int.{w64}
use Rattle.rb_model.specs.Values.{Value as Val, Nil, False, True, Int, Sym, Str, To}
use Rattle.rb_shared.specs.Lists.{Has, Each}
use Rattle.heap_core.specs.Blocks.{Block, TextAt, place_of, size_of, id_of}
use Rattle.heap_core.specs.Fixed.{fixed_word}
use Rattle.heap_core.specs.Spelling.{Spells}
use Rattle.heap_core.specs.View.{Holder, InRegion, Knows, Region}
use Rattle.block_kinds.specs.declared.loaded.Loaded.{Loaded}
use Rattle.block_kinds.specs.declared.loaded.Loaded.TheVariants as loaded

-- a word of the pass's own
abbrev pub OwnWord : Holder → ℕ → ℕ → Type 0
OwnWord k i x = (o : Region) × Has k.own o × InRegion i o × (get_or o.words (i - o.at) 0 ≡ x)

-- what never changes of the block stands in the pass's own words
abbrev pub IsLaid : Holder → Block → Type 0
IsLaid k b = (i x : ℕ) → i < size_of b → fixed_word b i ≡ Some x → OwnWord k (place_of b + i) x

-- a pass reads what it can name and what it laid
abbrev pub CanRead : Holder → Block → Type 0
CanRead k b = Knows k b ⊎ IsLaid k b

abbrev pub AreBytes : List ℕ → Type 0
AreBytes bytes = (i : ℕ) → get_or bytes i 0 < 256

-- a value of a machine of 64 bits
abbrev pub IsValue : Val → Type 0
IsValue (Int n) = FitsSigned w64 n
IsValue (Sym name) = name.0 < 2 ^ 32
IsValue (Str bytes) = AreBytes bytes
IsValue v = Unit {0}

-- the word names the value, by blocks that the pass reads
abbrev pub Names : Holder → ℕ → Val → Type 0
Names k w v = IsValue v × ((bs : List Block) × Each (CanRead k) bs × Spells bs w v)

-- the value was loaded: a text as the place of its block, a thing as its id and its place
abbrev pub IsLoaded : Holder → Val → Loaded → Type 0
IsLoaded k Nil loaded.Nil = Unit {0}
IsLoaded k False loaded.False = Unit {0}
IsLoaded k True loaded.True = Unit {0}
IsLoaded k (Int n) (loaded.Int m) = m ≡ n
IsLoaded k (Sym name) (loaded.Sym number) = number ≡ name.0
IsLoaded k (Str bytes) (loaded.Text at) = CanRead k (TextAt bytes at)
IsLoaded k (To r) (loaded.Thing id at) = (id ≡ r.id) × ((b : Block) × CanRead k b × (id_of b ≡ Some r.id) × (place_of b ≡ at))
IsLoaded k v l = ⊥
