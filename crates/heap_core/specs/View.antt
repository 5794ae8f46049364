-- What a pass knows of the heap, beside what it shows of a shared store.
use Rattle.std.specs.Prelude.{◌≡◌, ◌≤◌, ◌<◌, ◌==◌, ◌&&◌, ◌-◌, ℕ, ◌+◌, Bool, true, false, nat_le, nat_lt, List, [], ◌∷◌, ◌++◌, length, map, set, take, drop, Option, Some, None, if◌then◌else◌}
use Rattle.rb_model.specs.Log.{Call, Entry}
use Rattle.rb_model.specs.Private.{Item}
use Rattle.rb_model.specs.declared.value.Ref.{Ref}
use Rattle.rb_shared.specs.History.{History}
use Rattle.rb_shared.specs.Lists.{Has}
use Rattle.rb_shared.specs.Store.{globals}
use Rattle.rb_shared.specs.View.{View, first_view, with_entry, with_refused, split_view, newborn, joined_view}
use Rattle.heap_core.specs.Places.{tree_lock, first_root, first_shared}
use Rattle.heap_core.specs.Handing.{Plan, Handed}
use Rattle.heap_core.specs.Blocks.{Block, ObjectAt, ShapeAt, LockAt, TheTurn, LinkAt}
use Rattle.heap_core.specs.Charges.{globals_shape}
use Rattle.shape_core.specs.Shape.{Shape, root_of}

-- words that a pass took and has not published: their place, and what they are
pub record Region : Type 0 where
  pub at : ℕ
  pub words : List ℕ

-- What is in progress at a place: nothing; the plain lock of an object or of the shape tree is had; the turn is had with what was handed on, and the
-- slot is out with the seat or at home; or the own thread is about to end, and its state and result are laid.
pub data Busy : Type 0 where
  Idle : Busy
  Locked : Busy
  Turned : (what : Handed) (out : Bool) → Busy
  Ends : (state result : ℕ) → Busy

pub record Doing : Type 0 where
  pub at : ℕ
  pub busy : Busy

abbrev pub busy_at : ℕ → List Doing → Busy
busy_at at [] = Idle
busy_at at (d ∷ ds) = if d.at == at then d.busy else busy_at at ds

-- set at its place, and nothing else
abbrev pub set_busy : Doing → List Doing → List Doing
set_busy d [] = d ∷ []
set_busy d (e ∷ es) = if e.at == d.at then d ∷ es else e ∷ set_busy d es

-- What the seat of a pass knows: the view of the pass, whether the pass still is one, its line in the table of threads and that of the thread
-- that it started last, how many words the heap has, the blocks that it can name, the regions of words that are its own, how many words it published
-- ahead of the entry that they are for, the shapes that it made ahead, what is in progress by place, the reads that it has loaded and may still make, each with its reply, and the history
-- that it shows, once all threads have ended.
pub record Holder : Type 0 where
  pub view : View
  pub live : Bool
  pub line : ℕ
  pub due : ℕ
  pub size : ℕ
  pub blocks : List Block
  pub own : List Region
  pub ahead : ℕ
  pub shapes : List Shape
  pub doing : List Doing
  pub late : List Entry
  pub front : Option History

-- the blocks of the opening
abbrev pub opening_blocks : List Block
opening_blocks =
    ObjectAt globals 0 ∷ TheTurn ∷ LockAt tree_lock ∷ ShapeAt (root_of 4294967295) first_root ∷ ShapeAt globals_shape first_shared
    ∷ LinkAt first_root (first_root + 5) first_shared 0 ∷ []

abbrev pub first_holder : Plan → Holder
first_holder p = record {
  view = first_view p.slots;
  live = true;
  line = 0;
  due = 0;
  size = p.words;
  blocks = opening_blocks;
  own = [];
  ahead = 0;
  shapes = [];
  doing = [];
  late = [];
  front = None;
}

-- a seat that is no pass any more
abbrev pub spent_holder : Holder
spent_holder = record { view = first_view 0; live = false; line = 0; due = 0; size = 0; blocks = []; own = []; ahead = 0; shapes = []; doing = []; late = []; front = None }

abbrev pub Knows : Holder → Block → Type 0
Knows k b = Has k.blocks b

abbrev pub InRegion : ℕ → Region → Type 0
InRegion i o = (o.at ≤ i) × (i < o.at + length o.words)

abbrev pub words_in : List Region → ℕ
words_in [] = 0
words_in (o ∷ os) = length o.words + words_in os

-- all of these end no later than at this word
abbrev pub EndBy : List Region → ℕ → Type 0
EndBy os n = (o : Region) → Has os o → o.at + length o.words ≤ n

abbrev pub InOwn : ℕ → Holder → Type 0
InOwn i k = (o : Region) × Has k.own o × InRegion i o

-- the pass has the lock of the tree of shapes
abbrev pub HasTree : Holder → Type 0
HasTree k = busy_at tree_lock k.doing ≡ Locked

-- how many words a pass owns, or published ahead
abbrev pub held : Holder → ℕ
held k = words_in k.own + k.ahead

-- ---- what steps make of it

abbrev pub with_view : Holder → View → Holder
with_view k v = record k { view = v }

-- the pass owns this region alone, of so many words
abbrev pub OwnsOne : Holder → (at count : ℕ) → Type 0
OwnsOne k at count = (ws : List ℕ) × (length ws ≡ count) × (k.own ≡ record { at = at; words = ws } ∷ [])

-- these words are all that it owns
abbrev pub with_own : Holder → ℕ → List ℕ → Holder
with_own k at ws = record k { own = record { at = at; words = ws } ∷ [] }

-- the first words of these, and the rest as it was
abbrev pub front_of : List Region → ℕ → List ℕ → List ℕ
front_of [] i ws = take i ws
front_of (o ∷ os) i ws = take i ws ++ drop i o.words

abbrev pub with_front : Holder → ℕ → ℕ → List ℕ → Holder
with_front k at i ws = with_own k at (front_of k.own i ws)

abbrev pub with_region : Holder → ℕ → List ℕ → Holder
with_region k at ws = record k { own = record { at = at; words = ws } ∷ k.own }

-- another word in a region, where it holds the place
abbrev pub holds_word : ℕ → Region → Bool
holds_word i o = nat_le o.at i && nat_lt i (o.at + length o.words)

abbrev pub stored : ℕ → ℕ → Region → Region
stored i x o = if holds_word i o then record { at = o.at; words = set o.words (i - o.at) x } else o

-- with another word at a place of its own
abbrev pub with_stored : Holder → ℕ → ℕ → Holder
with_stored k i x = record k { own = map (stored i x) k.own }

abbrev pub with_busy : Holder → ℕ → Busy → Holder
with_busy k at b = record k { doing = set_busy (record { at = at; busy = b }) k.doing }

-- blocks are learnt
abbrev pub with_more : Holder → List Block → Holder
with_more k bs = record k { blocks = k.blocks ++ bs }

-- A shape is made ahead of its entry: these blocks come, and of its own words these are left.
abbrev pub with_shape : Holder → List Region → Shape → List Block → Holder
with_shape k left shape bs = record k { blocks = k.blocks ++ bs; own = left; shapes = shape ∷ k.shapes }

-- the heap had no room for a call
abbrev pub with_full : Holder → Call → List Item → ℕ → ℕ → Holder
with_full k call moved used wanted = with_view k (with_refused k.view call moved (Some (used, wanted)))

-- an entry is made, which tells references; blocks are learnt
abbrev pub with_read : Holder → Entry → List Ref → List Block → Holder
with_read k e refs bs = record k { view = with_entry k.view e refs; blocks = k.blocks ++ bs; late = [] }

-- An entry is made for which these words were published: those that the pass owned, and those that it published ahead. None is left.
abbrev pub with_change : Holder → Entry → List Ref → List Block → Holder
with_change k e refs bs = record k { view = with_entry k.view e refs; blocks = k.blocks ++ bs; own = []; ahead = 0; shapes = []; late = [] }

-- words of its own are published ahead of their entry, and these are left
abbrev pub with_ahead : Holder → List Region → ℕ → List Block → Holder
with_ahead k left n bs = record k { blocks = k.blocks ++ bs; own = left; ahead = k.ahead + n }

-- the history of all threads is shown
abbrev pub showing : Holder → History → Holder
showing k h = record k { front = Some h }

-- what shows it still when the heap is gone, and is no pass
abbrev pub front_holder : Holder → Holder
front_holder k = record spent_holder { front = k.front }

-- ---- split and join

abbrev pub maker : Holder → Holder
maker k = with_view k (split_view k.view)

abbrev pub child_of : Option ℕ → Holder → Holder
child_of None k = spent_holder
child_of (Some n) k = record {
  view = newborn k.view n;
  live = true;
  line = k.due;
  due = 0;
  size = k.size;
  blocks = k.blocks;
  own = [];
  ahead = 0;
  shapes = [];
  doing = [];
  late = [];
  front = None;
}

abbrev pub child : Holder → Holder
child k = child_of k.view.unsplit k

-- a pass that owns nothing and has nothing in progress may be joined
abbrev pub AtRest : Holder → Type 0
AtRest k = (k.own ≡ []) × ((at : ℕ) → busy_at at k.doing ≡ Idle)

-- what was loaded for a read is dropped, since more is known now
abbrev pub joined : Holder → Holder → Holder
joined k other = record k { view = joined_view k.view other.view; blocks = k.blocks ++ other.blocks; ahead = k.ahead + other.ahead; shapes = k.shapes ++ other.shapes; late = [] }
