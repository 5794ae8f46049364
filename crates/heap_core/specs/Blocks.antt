-- The blocks of the heap: what never changes in them, and where they stand.
use Rattle.std.specs.Prelude.{◌≡◌, ◌≤◌, ◌<◌, ℕ, ◌+◌, ℤ, List, [], ◌∷◌, Option, Some, None}
use Rattle.rb_model.specs.declared.value.Id.{Id}
use Rattle.rb_shared.specs.Lists.{Has}
use Rattle.shape_core.specs.Shape.{Shape}
use Rattle.heap_core.specs.Places.{turn_word, object_words, chunk_words, mutex_words, text_words, box_words, shape_words, thread_words}

-- Each kind of block, with what never changes in it, and last its place. A chunk tells the place of its object, and how many-th it is, from 1
-- on. A thread tells its number and that of its maker. A lock is a word alone. There is one turn word. A link has no words of its own: the word
-- `link` of the shape at `home` leads to the shape at `to`, which is the number-th child of its parent, or the number-th root, from 0 on.
pub data Block : Type 0 where
  ObjectAt : (id : Id) (at : ℕ) → Block
  ChunkAt : (object number at : ℕ) → Block
  MutexAt : (id : Id) (at : ℕ) → Block
  ThreadAt : (id : Id) (number maker at : ℕ) → Block
  TextAt : (bytes : List ℕ) (at : ℕ) → Block
  BoxAt : (n : ℤ) (at : ℕ) → Block
  ShapeAt : (shape : Shape) (at : ℕ) → Block
  LockAt : (at : ℕ) → Block
  TheTurn : Block
  LinkAt : (home link to number : ℕ) → Block

abbrev pub place_of : Block → ℕ
place_of (ObjectAt id at) = at
place_of (ChunkAt object number at) = at
place_of (MutexAt id at) = at
place_of (ThreadAt id number maker at) = at
place_of (TextAt bytes at) = at
place_of (BoxAt n at) = at
place_of (ShapeAt shape at) = at
place_of (LockAt at) = at
place_of TheTurn = turn_word
place_of (LinkAt home link to number) = link

abbrev pub size_of : Block → ℕ
size_of (ObjectAt id at) = object_words
size_of (ChunkAt object number at) = chunk_words
size_of (MutexAt id at) = mutex_words
size_of (ThreadAt id number maker at) = thread_words
size_of (TextAt bytes at) = text_words bytes
size_of (BoxAt n at) = box_words
size_of (ShapeAt shape at) = shape_words
size_of (LockAt at) = 1
size_of TheTurn = 1
size_of (LinkAt home link to number) = 0

-- the place of the block whose rule speaks of this one's words: its own, or that of what it is a part of
abbrev pub home_of : Block → ℕ
home_of (ChunkAt object number at) = object
home_of (LinkAt home link to number) = home
home_of b = place_of b

-- the thing that the block stands for, if it is one
abbrev pub id_of : Block → Option Id
id_of (ObjectAt id at) = Some id
id_of (MutexAt id at) = Some id
id_of (ThreadAt id number maker at) = Some id
id_of b = None

-- the number of the thread that it stands for, if it is one
abbrev pub number_of : Block → Option ℕ
number_of (ThreadAt id number maker at) = Some number
number_of b = None

abbrev pub Inside : ℕ → Block → Type 0
Inside i b = (place_of b ≤ i) × (i < place_of b + size_of b)

-- a part has what it is a part of among the blocks
abbrev pub HasHome : List Block → Block → Type 0
HasHome bs (ChunkAt object number at) = (id : Id) × Has bs (ObjectAt id object)
HasHome bs (LinkAt home link to number) = (shape : Shape) × Has bs (ShapeAt shape home)
HasHome bs b = Unit {0}

-- shapes and links are the tree of shapes
abbrev pub IsOfTree : Block → Type 0
IsOfTree (ShapeAt shape at) = Unit {0}
IsOfTree (LinkAt home link to number) = Unit {0}
IsOfTree b = ⊥

-- the word is one of those that the rule of the block at this place speaks of
abbrev pub InFamily : List Block → ℕ → ℕ → Type 0
InFamily bs home i = (b : Block) × Has bs b × (home_of b ≡ home) × Inside i b

-- how many words shapes take
abbrev pub shape_words_of : Block → ℕ
shape_words_of (ShapeAt shape at) = shape_words
shape_words_of b = 0

abbrev pub words_of_shapes : List Block → ℕ
words_of_shapes [] = 0
words_of_shapes (b ∷ bs) = shape_words_of b + words_of_shapes bs
