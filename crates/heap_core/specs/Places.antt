-- Where the words of the opening stand, and how many words there are of each kind of block.
use Rattle.std.specs.Prelude.{ℕ, ◌+◌, ◌*◌, ◌/◌, List, length}

-- The opening has 128 words: the globals from word 0 on, behind them the used word, the turn word and the lock of the shape tree, then the
-- root and the shared shape of the globals, and from word 32 on the heap-wide lock, with room for 64 state words. The rest is spare.
abbrev pub opening_words : ℕ
opening_words = 128

abbrev pub used_word : ℕ
used_word = 14

abbrev pub turn_word : ℕ
turn_word = 15

abbrev pub tree_lock : ℕ
tree_lock = 16

abbrev pub first_root : ℕ
first_root = 17

abbrev pub first_shared : ℕ
first_shared = 24

abbrev pub heap_wide : ℕ
heap_wide = 32

-- ---- sizes

-- an object: sort and class, the two words of its id, its lock, its shape, its first chunk, and eight places
abbrev pub object_words : ℕ
object_words = 14

-- a chunk of an object: the next chunk, and eight places
abbrev pub chunk_words : ℕ
chunk_words = 9

-- a mutex: its sort, its id, and its owner
abbrev pub mutex_words : ℕ
mutex_words = 4

-- a text: its tag, its length, and its bytes, eight a word
abbrev pub text_words : List ℕ → ℕ
text_words bytes = 2 + (length bytes + 7) / 8

-- a boxed integer: its tag, and its bits
abbrev pub box_words : ℕ
box_words = 2

-- a shape: class and flag, parent, edge, place, count of places, first child, next sibling
abbrev pub shape_words : ℕ
shape_words = 7

-- a thread: its sort, its id, its number, its maker, its state, its result, and its place in the table of threads
abbrev pub thread_words : ℕ
thread_words = 8

-- the head of a list or hash, and the state words that it has of its own once several threads change it
abbrev pub head_words : ℕ
head_words = 6

abbrev pub slot_words : ℕ
slot_words = 16

-- the region of a list with room for r elements, and that of a hash with room for r pairs
abbrev pub list_region_words : ℕ → ℕ
list_region_words r = 2 + r

abbrev pub hash_region_words : ℕ → ℕ
hash_region_words r = 2 + 5 * r
