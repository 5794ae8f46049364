-- The blocks of values, word by word, and what laying them leaves of a pass.
use Rattle.std.specs.Prelude.{◌≡◌, ◌≤◌, ◌<◌, ℕ, zero, suc, ◌+◌, ◌/◌, ◌^◌, ℤ, if◌then◌else◌, List, [], ◌∷◌, ◌++◌, length, Option}
use Rattle.rb_model.specs.declared.value.Id.{Id}
use Rattle.rb_model.specs.Values.{Value as Val, Int, Str, plain}
use Rattle.rb_model.specs.declared.value.Value.{Value as Held}
use Rattle.rb_model.specs.declared.value.Value.TheVariants as held
use Rattle.typed_location.specs.Word.{twos_complement}
use Rattle.heap_core.specs.Blocks.{Block, BoxAt, TextAt}
use Rattle.heap_core.specs.Charges.{is_small}
use Rattle.heap_core.specs.Mutexes.{mutex_tag}
use Rattle.heap_core.specs.Owning.{owner_word}
use Rattle.heap_core.specs.Rule.{LiesIn}
use Rattle.heap_core.specs.Spelling.{Spells, byte_word}
use Rattle.heap_core.specs.Texts.{text_tag, box_tag}
use Rattle.heap_core.specs.View.{Holder, InOwn, with_stored}
use Rattle.block_kinds.specs.Reading.{Names}

-- ---- blocks

-- so many words of a text's bytes, from the k-th on
abbrev pub byte_words : (count k : ℕ) → List ℕ → List ℕ
byte_words zero k bytes = []
byte_words (suc count) k bytes = byte_word bytes k ∷ byte_words count (suc k) bytes

abbrev pub text_block : List ℕ → List ℕ
text_block bytes = text_tag ∷ length bytes ∷ byte_words ((length bytes + 7) / 8) 0 bytes

abbrev pub box_block : ℤ → List ℕ
box_block n = box_tag ∷ twos_complement 64 n ∷ []

abbrev pub mutex_block : Id → Option ℕ → List ℕ
mutex_block id owner = mutex_tag ∷ id.thread ∷ id.serial ∷ owner_word owner ∷ []

-- the words of the block of a value, where it has one
abbrev pub value_words : Val → List ℕ
value_words (Str bytes) = text_block bytes
value_words (Int n) = if is_small n then [] else box_block n
value_words v = []

-- that block
abbrev pub value_blocks : Val → ℕ → List Block
value_blocks (Str bytes) at = TextAt bytes at ∷ []
value_blocks (Int n) at = if is_small n then [] else BoxAt n at ∷ []
value_blocks v at = []

-- ---- passes

-- so many words from a place on are the pass's own
abbrev pub OwnsWords : Holder → (at count : ℕ) → Type 0
OwnsWords k at count = (i : ℕ) → at ≤ i → i < at + count → InOwn i k

-- with these words from a place of its own on
abbrev pub with_words : Holder → ℕ → List ℕ → Holder
with_words k at [] = k
with_words k at (x ∷ xs) = with_words (with_stored k at x) (suc at) xs

-- ---- references

-- a word has room for the place of a reference
abbrev pub HasPlace : Held → Type 0
HasPlace (held.Ref r) = r.at < 2 ^ 61
HasPlace v = Unit {0}

-- the value is no reference, or one whose thing is at its place
abbrev pub LiesFor : List Block → Held → Type 0
LiesFor bs (held.Ref r) = LiesIn bs r
LiesFor bs v = Unit {0}

-- ---- what building a value leaves

-- Its block is laid. By blocks in which a reference lies, and by its own, the word spells the value; and the pass reads it by the word.
abbrev pub Builds : Holder → Holder → (at w : ℕ) → Held → Type 0
Builds k k' at w value =
    (k' ≡ with_words k at (value_words (plain value)))
    × ((bs : List Block) → LiesFor bs value → Spells (bs ++ value_blocks (plain value) at) w (plain value))
    × (LiesFor k.blocks value → Names k' w (plain value))
