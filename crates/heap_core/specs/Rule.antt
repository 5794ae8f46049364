-- The one law of the heap: there is a run, whose plain steps lead from the opening to the things that the words stand for, block by block.
use Rattle.std.specs.Prelude.{◌≡◌, ◌≤◌, ◌<◌, ◌⊎◌, ℕ, suc, ◌+◌, ◌*◌, true, false, List, [], ◌∷◌, length, get_or, Option, Some, None}
use mathlib.Core.Option.{some}
use lib.ListN.{get_elem?}
use Rattle.atomic_table.specs.Table.{State}
use Rattle.rb_model.specs.declared.value.Id.{Id}
use Rattle.rb_model.specs.declared.value.Ref.{Ref}
use Rattle.rb_model.specs.Log.{Refusal}
use Rattle.rb_model.specs.Things.{ThreadState}
use Rattle.rb_shared.specs.History.{History}
use Rattle.rb_shared.specs.Store.{Store, threads, ungathered_count}
use Rattle.rb_shared.specs.Lists.{Has, Each}
use Rattle.shape_core.specs.Shape.{Shape, root_of}
use Rattle.shared_run.specs.Closing.{ShowsRun}
use Rattle.shared_run.specs.Run.{Run, IsRun, MayStill, refused_at}
use Rattle.shared_run.specs.Run as runs
use Rattle.heap_core.specs.Places.{opening_words, used_word, shape_words, thread_words, tree_lock, first_root}
use Rattle.heap_core.specs.Handing.{Plan, Slot}
use Rattle.heap_core.specs.Blocks.{Block, ObjectAt, ChunkAt, MutexAt, ThreadAt, TextAt, BoxAt, ShapeAt, LockAt, TheTurn, place_of, size_of, id_of, Inside, HasHome, words_of_shapes, LinkAt, IsOfTree, number_of}
use Rattle.heap_core.specs.Charges.{budget, tally_of}
use Rattle.heap_core.specs.View.{Region, InRegion, Holder, InOwn, Knows, HasTree, held}
use Rattle.heap_core.specs.Moment.{Moment, At}
use Rattle.heap_core.specs.Locks.{LockStands}
use Rattle.heap_core.specs.Objects.{ObjectStands, ChunkStands}
use Rattle.heap_core.specs.Shapes.{ShapeStands}
use Rattle.heap_core.specs.Links.{IsNth, LinkStands}
use Rattle.heap_core.specs.Texts.{TextStands, BoxStands}
use Rattle.heap_core.specs.Mutexes.{MutexStands}
use Rattle.heap_core.specs.Threads.{ThreadStands}
use Rattle.heap_core.specs.Turns.{TurnStands}

-- each kind of block has its rule in a file of its own
abbrev pub Stands : Moment → Block → Type 0
Stands m (ObjectAt id at) = ObjectStands m id at
Stands m (ChunkAt object number at) = ChunkStands m object number at
Stands m (MutexAt id at) = MutexStands m id at
Stands m (ThreadAt id number maker at) = ThreadStands m id number maker at
Stands m (TextAt bytes at) = TextStands m bytes at
Stands m (BoxAt n at) = BoxStands m n at
Stands m (ShapeAt shape at) = ShapeStands m shape at
Stands m (LockAt at) = LockStands m at at
Stands m TheTurn = TurnStands m
Stands m (LinkAt home link to number) = LinkStands m home link to number

-- ---- threads

-- the pass of a thread is this seat's, or is to be split off it
abbrev pub Claims : Holder → ℕ → Type 0
Claims k n = (k.live ≡ true) × ((k.view.thread ≡ n) ⊎ (k.view.unsplit ≡ Some n))

-- no thread is two seats'
abbrev pub Apart : List Holder → Type 0
Apart holders = (i j n : ℕ) (k l : Holder) → At holders i k → At holders j l → Claims k n → Claims l n → i ≡ j

-- thread t was started, and its maker has not gathered it
abbrev pub IsUngathered : Store → ℕ → Type 0
IsUngathered z t = (x : ThreadState) × Has (threads z) x × (x.number ≡ t) × (x.gathered ≡ false)

-- how many lines are taken
abbrev pub taken_count : List (Option ℕ) → ℕ
taken_count [] = 0
taken_count (None ∷ lines) = taken_count lines
taken_count (Some t ∷ lines) = suc (taken_count lines)

-- The table of threads has a line for each slot. The main thread has the first, each other line is free or that of a thread that is not yet
-- gathered. Each such thread has one, and none has two, so as many lines are taken as there are such threads, and that of the main one. A pass has the line of its thread, and knows that of the thread whose pass is to be split off it.
pub record Seated (slots : ℕ) (z : Store) (lines : List (Option ℕ)) (holders : List Holder) : Type 0 where
  pub long : length lines ≡ slots
  pub main : get_elem? lines 0 ≡ some (Some 0)
  pub taken : (i t : ℕ) → get_elem? lines i ≡ some (Some t) → (t ≡ 0) ⊎ IsUngathered z t
  pub all : (t : ℕ) → IsUngathered z t → (i : ℕ) × (get_elem? lines i ≡ some (Some t))
  pub count : taken_count lines ≡ suc (ungathered_count z)
  pub once : (i j t : ℕ) → get_elem? lines i ≡ some (Some t) → get_elem? lines j ≡ some (Some t) → i ≡ j
  pub mine : (j : ℕ) (k : Holder) → At holders j k → k.live ≡ true → get_elem? lines k.line ≡ some (Some k.view.thread)
  pub due : (j n : ℕ) (k : Holder) → At holders j k → k.live ≡ true → k.view.unsplit ≡ Some n → get_elem? lines k.due ≡ some (Some n)

-- ---- words

-- No word is two blocks', a block's and a pass's own, two passes' own, or twice one's. All of these lie below the used words, none is the used word
-- itself, and what is owned lies behind the opening.
pub record Laid (ws : List ℕ) (holders : List Holder) (blocks : List Block) : Type 0 where
  pub apart : (i : ℕ) (b c : Block) → Has blocks b → Has blocks c → Inside i b → Inside i c → b ≡ c
  pub beside : (i j : ℕ) (k : Holder) (b : Block) → At holders j k → Has blocks b → InOwn i k → Inside i b → ⊥
  pub alone : (i j l : ℕ) (k u : Holder) → At holders j k → At holders l u → InOwn i k → InOwn i u → j ≡ l
  pub blocks_in : (b : Block) → Has blocks b → (place_of b + size_of b ≤ get_or ws used_word 0) × (Inside used_word b → ⊥)
  pub single : (i j : ℕ) (k : Holder) (o p : Region) → At holders j k → Has k.own o → Has k.own p → InRegion i o → InRegion i p → o ≡ p
  pub own_in : (j : ℕ) (k : Holder) (o : Region) → At holders j k → Has k.own o → (opening_words ≤ o.at) × (o.at + length o.words ≤ get_or ws used_word 0)
  pub opening_in : opening_words ≤ get_or ws used_word 0
  pub used_in : get_or ws used_word 0 ≤ length ws
  pub size : (j : ℕ) (k : Holder) → At holders j k → k.live ≡ true → k.size ≡ length ws

-- how many words all passes own, or published ahead
abbrev pub owned : List Holder → ℕ
owned [] = 0
owned (k ∷ ks) = held k + owned ks

-- a refusal had no more used words than there are now, and asked for more than there were
abbrev pub Below : ℕ → ℕ → Refusal → Type 0
Below used size r = (n wanted : ℕ) → r.words ≡ Some (n, wanted) → (n ≤ used) × (size < n + wanted)

-- an entry made the shape, or a pass did ahead of its entry
abbrev pub IsMade : List Shape → List Holder → Shape → Type 0
IsMade made holders shape = Has made shape ⊎ ((j : ℕ) × (k : Holder) × At holders j k × (k.live ≡ true) × Has k.shapes shape)

-- ---- what is known

-- a reference names a thing by its id and place
abbrev pub LiesIn : List Block → Ref → Type 0
LiesIn bs r = (b : Block) × Has bs b × (id_of b ≡ Some r.id) × (place_of b ≡ r.at)

abbrev pub moment : Plan → State Slot Holder → Run → List (Option ℕ) → List Block → Moment
moment plan s run lines blocks = record { words = s.words; homes = s.homes; plan = plan; run = run; holders = s.views; lines = lines; blocks = blocks }

-- The law of a heap of this plan.
pub record Kept (plan : Plan) (s : State Slot Holder) : Type 0 where
  pub run : Run
  pub blocks : List Block
  pub lines : List (Option ℕ)
  -- the plain steps of the run lead from the opening to its store, and each pass knows of it what its view says
  pub is_run : IsRun plan.slots run
  pub knows : (j : ℕ) (k : Holder) → At s.views j k → k.live ≡ true → runs.Knows plan.slots run k.view
  pub apart : Apart s.views
  pub seated : Seated plan.slots run.store lines s.views
  -- each block stands for its thing, and no other stands for that
  pub laid : Laid s.words s.views blocks
  pub each : (b : Block) → Has blocks b → Stands (moment plan s run lines blocks) b
  pub one : (id : Id) (b c : Block) → Has blocks b → Has blocks c → id_of b ≡ Some id → id_of c ≡ Some id → b ≡ c
  pub one_thread : (n : ℕ) (b c : Block) → Has blocks b → Has blocks c → number_of b ≡ Some n → number_of c ≡ Some n → b ≡ c
  pub one_shape : (shape : Shape) (at to : ℕ) → Has blocks (ShapeAt shape at) → Has blocks (ShapeAt shape to) → at ≡ to
  -- there is the turn word
  pub turn : Has blocks TheTurn
  -- and the lock of the tree of shapes; the pass that has it knows the whole tree
  pub lock : Has blocks (LockAt tree_lock)
  pub tree : (j : ℕ) (k : Holder) → At s.views j k → k.live ≡ true → HasTree k → (b : Block) → Has blocks b → IsOfTree b → Knows k b
  -- there is the first root, each shape is the first root or one link leads to it, and no row or path is longer than there is room for shapes
  pub root : Has blocks (ShapeAt (root_of 4294967295) first_root)
  pub linked : (shape : Shape) (at : ℕ) → Has blocks (ShapeAt shape at) → (number : ℕ) × IsNth blocks number at
  pub once : (number other at : ℕ) → IsNth blocks number at → IsNth blocks other at → number ≡ other
  pub few : (number at : ℕ) → IsNth blocks number at → shape_words * number + owned s.views ≤ get_or s.words used_word 0
  pub deep : (shape : Shape) (at : ℕ) → Has blocks (ShapeAt shape at) → shape_words * length shape.path + owned s.views ≤ get_or s.words used_word 0
  -- a part has what it is a part of
  pub homes : (b : Block) → Has blocks b → HasHome blocks b
  -- what a pass can name is a block, and its references lie where they say
  pub known : (j : ℕ) (k : Holder) (b : Block) → At s.views j k → Knows k b → Has blocks b
  pub lie : (j : ℕ) (k : Holder) → At s.views j k → k.live ≡ true → Each (LiesIn k.blocks) k.view.known
  -- the own words are what the views say, and every word is the opening's, an entry's or a pass's
  pub own : (i j : ℕ) (k : Holder) (o : Region) → At s.views j k → Has k.own o → i < length o.words → get_or s.words (o.at + i) 0 ≡ get_or o.words i 0
  pub used : get_or s.words used_word 0 + shape_words * length (tally_of plan.slots run.events).shapes ≡ opening_words + budget plan.slots run.events + words_of_shapes blocks + owned s.views
  -- each thread that was started took its words
  pub begun : opening_words + thread_words * length run.refusals + owned s.views ≤ get_or s.words used_word 0 + thread_words
  pub made : (shape : Shape) (at : ℕ) → Has blocks (ShapeAt shape at) → IsMade (tally_of plan.slots run.events).shapes s.views shape
  -- what was loaded for a read may still be entered
  pub late : (j : ℕ) (k : Holder) → At s.views j k → k.live ≡ true → Each (MayStill plan.slots run k.view.thread) k.late
  pub refused : (t : ℕ) → Each (Below (get_or s.words used_word 0) (length s.words)) (refused_at run.refusals t)
  pub spent : (j : ℕ) (k : Holder) → At s.views j k → k.live ≡ false → held k ≡ 0
  -- a history that is shown is that of the run, whose threads have all ended
  pub shows : (j : ℕ) (k : Holder) → At s.views j k → (h : History) → k.front ≡ Some h → ShowsRun run h
