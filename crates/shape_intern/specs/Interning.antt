-- What it leaves of a pass that a shape is there.
use Rattle.std.specs.Prelude.{◌≡◌, ◌≤◌, ◌⊎◌, ℕ, ◌+◌, List, [], ◌∷◌, drop, length}
use Rattle.shape_core.specs.declared.edge.Edge.{Edge}
use Rattle.shape_core.specs.Path.{IsPath}
use Rattle.shape_core.specs.Shape.{Shape, child_of}
use Rattle.heap_core.specs.Blocks.{Block, ShapeAt}
use Rattle.rb_shared.specs.Lists.{Has}
use Rattle.heap_core.specs.Growing.{Growth, Learns, LeadsUp, MayGrow, shape_block}
use Rattle.heap_core.specs.Places.{first_root, shape_words}
use Rattle.heap_core.specs.Shapes.{IsNarrow, parent_of}
use Rattle.heap_core.specs.View.{Holder, Knows, Region, with_shape}
use Rattle.shape_intern.specs.Walks.{Ends, IsMissing, KnowsShapeAt}

-- the pass owns one region, from this place on, with these words
abbrev pub OwnsOne : Holder → ℕ → List ℕ → Type 0
OwnsOne k at ws = k.own ≡ record { at = at; words = ws } ∷ []

abbrev pub with_own : Holder → ℕ → List ℕ → Holder
with_own k at ws = record k { own = record { at = at; words = ws } ∷ [] }

-- its one region begins here and has room for a shape
abbrev pub HasRoom : Holder → ℕ → Type 0
HasRoom k at = (ws : List ℕ) × OwnsOne k at ws × (shape_words ≤ length ws)

-- what is left of the regions where the first loses the words of a shape
abbrev pub behind_shape : List Region → List Region
behind_shape [] = []
behind_shape (o ∷ os) = record { at = o.at + shape_words; words = drop shape_words o.words } ∷ os

-- a shape was made ahead of its entry at this place, of the first words of the pass's own
abbrev pub Makes : Shape → ℕ → Holder → Holder → Type 0
Makes shape at k k' = (bs : List Block) × Has bs (ShapeAt shape at) × (k' ≡ with_shape k (behind_shape k.own) shape bs)

-- the pass may make some shape, whose words are laid at this place, and link it from this word
abbrev pub MayMake : Holder → (link to : ℕ) → Type 0
MayMake k link to = (g : Growth) × (g.link ≡ link) × (g.to ≡ to) × ((before : Shape) × (parent : ℕ) × MayGrow k before parent g)

-- the shape is missing, these are its words, its row ends with this link word, and each edge of its path was allowed
abbrev pub IsWanted : Holder → (link : ℕ) → List ℕ → Shape → Type 0
IsWanted k link words shape =
    (parent : ℕ) × IsMissing k.blocks shape × Ends k.blocks (parent_of shape) link × IsNarrow shape × LeadsUp k.blocks (parent_of shape) parent
    × (words ≡ shape_block shape parent) × IsPath shape.path

-- the root of the globals, from which the row of roots begins
abbrev pub KnowsRoot : Holder → Type 0
KnowsRoot k = KnowsShapeAt k first_root

-- the pass knows a shape, or the child of the one at this place by an edge
abbrev pub KnowsShape : Holder → Shape → Type 0
KnowsShape k shape = (at : ℕ) × Knows k (ShapeAt shape at)

abbrev pub KnowsChild : Holder → ℕ → Edge → Type 0
KnowsChild k at edge = (shape : Shape) × Knows k (ShapeAt shape at) × KnowsShape k (child_of shape edge)

-- A shape that was there is found, and nothing is stored. One that was not is made at the front of the pass's own words.
pub record Interned (k k' : Holder) (room room' : ℕ) (shape : Shape) (at : ℕ) : Type 0 where
  pub known : Knows k' (ShapeAt shape at)
  pub there : (to : ℕ) → Knows k (ShapeAt shape to) → (at ≡ to) × (room' ≡ room) × Learns k k'
  pub made : IsMissing k.blocks shape → (at ≡ room) × (room' ≡ room + shape_words) × Makes shape at k k'

-- So many are missing of a shape and of those to which these edges lead from it, one behind the other.
abbrev pub Misses : Holder → Shape → List Edge → ℕ → Type 0
Misses k shape [] n = (KnowsShape k shape × (n ≡ 0)) ⊎ (IsMissing k.blocks shape × (n ≡ 1))
Misses k shape (edge ∷ edges) n = (m : ℕ) × Misses k (child_of shape edge) edges m × ((KnowsShape k shape × (n ≡ m)) ⊎ (IsMissing k.blocks shape × (n ≡ m + 1)))
