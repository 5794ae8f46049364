-- What the steps on the words of a shape tell: those that look, and the one that makes a shape.
use Rattle.std.specs.Prelude.{◌≡◌, ◌≢◌, ◌⊎◌, ℕ, zero, suc, ◌+◌, List, [], ◌∷◌, ◌++◌, Option, Some, None}
use Rattle.rb_shared.specs.Lists.{Has}
use Rattle.shape_core.specs.Path.{IsPath, is_shared, places_of}
use Rattle.shape_core.specs.Shape.{Shape}
use Rattle.heap_core.specs.Places.{shape_words}
use Rattle.heap_core.specs.Blocks.{Block, ShapeAt, LinkAt, IsOfTree}
use Rattle.heap_core.specs.Fixed.{edge_of, places_before}
use Rattle.heap_core.specs.Shapes.{IsNarrow, flagged, first_child, next_sibling, parent_of}
use Rattle.heap_core.specs.Links.{IsNth, IsTree}
use Rattle.heap_core.specs.View.{Holder, HasTree, Knows, with_more, with_shape}

-- ---- a word is looked at

-- blocks are learnt, none of the tree where the pass has its lock
abbrev pub Learns : Holder → Holder → Type 0
Learns k k' = (bs : List Block) × (k' ≡ with_more k bs) × (HasTree k → (b : Block) → IsOfTree b → Knows k' b → Knows k b)

-- a parent word: 0 of a root, and else the place of the shape with one edge less
abbrev pub LeadsUp : List Block → Option Shape → ℕ → Type 0
LeadsUp bs None w = w ≡ 0
LeadsUp bs (Some shape) w = Has bs (ShapeAt shape w)

-- a link word: 0, and then there is no such link, or that of a link
abbrev pub LeadsOn : List Block → (home link w : ℕ) → Type 0
LeadsOn bs home link w =
    ((w ≡ 0) × ((from to number : ℕ) → Has bs (LinkAt from link to number) → ⊥))
    ⊎ ((w ≢ 0) × ((number : ℕ) × Has bs (LinkAt home link w number)))

abbrev pub parent_word : ℕ → ℕ
parent_word at = at + 1

-- the parent word or a link word of a shape is looked at
abbrev pub LooksShape : Block → (i first second : ℕ) → Holder → ℕ → Holder → Type 0
LooksShape (ShapeAt shape at) i first second k n k' =
    Learns k k' × IsTree k.size k'.blocks
    × (i ≡ parent_word at → LeadsUp k'.blocks (parent_of shape) n)
    × ((i ≡ first_child at) ⊎ (i ≡ next_sibling at) → LeadsOn k'.blocks at i n)
LooksShape b i first second k n k' = Unit {0}

-- ---- a shape is made

-- the words of a shape that has no child and stands last in its row
abbrev pub shape_block : Shape → ℕ → List ℕ
shape_block shape parent =
    flagged shape.class (is_shared shape.path) ∷ parent ∷ edge_of shape.path ∷ places_before shape.path ∷ places_of shape.path ∷ 0 ∷ 0 ∷ []

-- A shape that is to be linked from another, as its number-th child or root, and what is left of the pass's words.
pub record Growth : Type 0 where
  pub shape : Shape
  pub home : ℕ
  pub link : ℕ
  pub to : ℕ
  pub number : ℕ
  pub left : List ℕ

-- it is the first child of the other, or stands behind it in its row
abbrev pub MayLink : List Block → (before shape : Shape) → (home link number : ℕ) → Type 0
MayLink bs before shape home link zero = (link ≡ first_child home) × (parent_of shape ≡ Some before)
MayLink bs before shape home link (suc n) = (link ≡ next_sibling home) × IsNth bs n home × (parent_of shape ≡ parent_of before)

-- the pass that makes it has the lock of the tree, knows no such shape and no such link, and has its words laid at the front of its own
pub record MayGrow (k : Holder) (before : Shape) (parent : ℕ) (g : Growth) : Type 0 where
  pub has : HasTree k
  pub home : Knows k (ShapeAt before g.home)
  pub joins : MayLink k.blocks before g.shape g.home g.link g.number
  pub ends : (from to number : ℕ) → Knows k (LinkAt from g.link to number) → ⊥
  pub missing : (at : ℕ) → Knows k (ShapeAt g.shape at) → ⊥
  pub up : LeadsUp k.blocks (parent_of g.shape) parent
  pub narrow : IsNarrow g.shape
  pub legal : IsPath g.shape.path
  pub laid : k.own ≡ record { at = g.to; words = shape_block g.shape parent ++ g.left } ∷ []

-- what comes, and the pass afterwards
abbrev pub blocks_of : Growth → List Block
blocks_of g = ShapeAt g.shape g.to ∷ LinkAt g.home g.link g.to g.number ∷ []

abbrev pub with_growth : Holder → Growth → Holder
with_growth k g = with_shape k (record { at = g.to + shape_words; words = g.left } ∷ []) g.shape (blocks_of g)

-- a shape that may be made there is, by the store of its place at the link word
abbrev pub MakesShape : Block → (i first second : ℕ) → Holder → ℕ → Holder → Type 0
MakesShape (ShapeAt shape at) i first second k n k' =
    (g : Growth) × (g.to ≡ first) × ((before : Shape) × (parent : ℕ) × MayGrow k before parent g) × (k' ≡ with_growth k g)
MakesShape b i first second k n k' = Unit {0}
