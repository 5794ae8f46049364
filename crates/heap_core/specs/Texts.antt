-- The rules of what never changes once it is published: texts and boxed integers.
use Rattle.std.specs.Prelude.{◌≡◌, ◌<◌, ℕ, ◌+◌, ◌/◌, ℤ, List, length}
use Rattle.typed_location.specs.Word.{twos_complement}
use Rattle.heap_core.specs.Spelling.{byte_word}
use Rattle.heap_core.specs.Moment.{Moment, word}

abbrev pub text_tag : ℕ
text_tag = 6

abbrev pub box_tag : ℕ
box_tag = 7

-- a text has its length and its bytes, eight a word, the first the lowest
abbrev pub TextStands : Moment → List ℕ → ℕ → Type 0
TextStands m bytes at =
    (word m at ≡ text_tag) × (word m (at + 1) ≡ length bytes) × ((k : ℕ) → k < (length bytes + 7) / 8 → word m (at + 2 + k) ≡ byte_word bytes k)

-- a box has the integer's bits
abbrev pub BoxStands : Moment → ℤ → ℕ → Type 0
BoxStands m n at = (word m at ≡ box_tag) × (word m (at + 1) ≡ twos_complement 64 n)
