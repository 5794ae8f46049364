-- How words spell values: raw bits at a place of integers, a tag and a payload at a place of any value. What does not fit the word has a
-- block of its own.
use Rattle.std.specs.Prelude.{◌≡◌, ◌⊎◌, ℕ, ◌*◌, ◌+◌, FitsSigned, List, [], ◌∷◌, drop, take, Some}
use Rattle.std.specs.Int.{w64}
use Rattle.rb_model.specs.Values.{Value as Val, Nil, False, True, Int, Sym, Str, To}
use Rattle.rb_shared.specs.Lists.{Has}
use Rattle.shape_core.specs.declared.edge.Kind.{Kind}
use Rattle.shape_core.specs.declared.edge.Kind.TheVariants.{IntLoc, AnyLoc}
use Rattle.typed_location.specs.declared.general_place.Any.TheVariants as any
use Rattle.typed_location.specs.Word.{word_of, twos_complement, IsSmall}
use Rattle.heap_core.specs.Blocks.{Block, BoxAt, TextAt, place_of, id_of}

-- the word of an integer: its bits in the word where it is small, and else the place of a box
abbrev pub SpellsInt : List Block → ℕ → Rattle.std.specs.Prelude.ℤ → Type 0
SpellsInt bs w n = (IsSmall n × (w ≡ word_of (any.Small n))) ⊎ ((IsSmall n → ⊥) × ((at : ℕ) × Has bs (BoxAt n at) × (w ≡ word_of (any.Boxed at))))

-- the word spells the value, by these blocks
abbrev pub Spells : List Block → ℕ → Val → Type 0
Spells bs w Nil = w ≡ word_of any.Nil
Spells bs w False = w ≡ word_of any.False
Spells bs w True = w ≡ word_of any.True
Spells bs w (Int n) = SpellsInt bs w n
Spells bs w (Sym name) = w ≡ word_of (any.Sym name.0)
Spells bs w (Str bytes) = (at : ℕ) × Has bs (TextAt bytes at) × (w ≡ word_of (any.Text at))
Spells bs w (To r) = (b : Block) × Has bs b × (id_of b ≡ Some r.id) × (w ≡ word_of (any.Thing (place_of b)))

-- the same at a place of integers alone
abbrev pub SpellsRaw : ℕ → Val → Type 0
SpellsRaw w (Int n) = FitsSigned w64 n × (w ≡ twos_complement 64 n)
SpellsRaw w v = ⊥

-- at a place of a kind
abbrev pub SpellsAt : List Block → Kind → ℕ → Val → Type 0
SpellsAt bs IntLoc w v = SpellsRaw w v
SpellsAt bs AnyLoc w v = Spells bs w v

-- bytes as a number, the first the lowest
abbrev pub of_bytes : List ℕ → ℕ
of_bytes [] = 0
of_bytes (b ∷ bs) = b + 256 * of_bytes bs

-- the word of the eight bytes from number 8 k on
abbrev pub byte_word : List ℕ → ℕ → ℕ
byte_word bytes k = of_bytes (take 8 (drop (8 * k) bytes))
