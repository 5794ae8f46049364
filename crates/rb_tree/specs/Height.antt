-- How high a tree is.
use Rattle.std.specs.Prelude.{ℕ, suc, max, List, [], ◌∷◌, Option, Some, None}
use Rattle.rb_tree.specs.declared.node.Node.{Node, fold-Node}
use Rattle.rb_tree.specs.declared.node.Piece.{Piece, fold-Piece}
use Rattle.rb_tree.specs.declared.node.Target.{Target, fold-Target}
use Rattle.rb_tree.specs.declared.node.Block.{Block, fold-Block}
use Rattle.rb_tree.specs.declared.node.Node.TheOpen.{Node-F, Piece-F, Target-F, Block-F}
use Rattle.rb_tree.specs.declared.node.Node.TheOpen as node

-- the greatest of numbers, 0 where there are none
abbrev pub highest : List ℕ → ℕ
highest [] = 0
highest (n ∷ ns) = max n (highest ns)

-- the greatest of the numbers of pairs
abbrev pub highest_pair : List (ℕ × ℕ) → ℕ
highest_pair [] = 0
highest_pair (p ∷ ps) = max (max p.0 p.1) (highest_pair ps)

-- the number that may be there, or 0
abbrev pub or_none : Option ℕ → ℕ
or_none None = 0
or_none (Some n) = n

abbrev pub block_step : Block-F ℕ ℕ ℕ ℕ → ℕ
block_step block = highest block.body

abbrev pub piece_step : Piece-F ℕ ℕ ℕ ℕ → ℕ
piece_step (node.Text text) = 0
piece_step (node.Code height) = height

abbrev pub target_step : Target-F ℕ ℕ ℕ ℕ → ℕ
target_step (node.Index receiver index) = max receiver index
target_step (node.Attribute receiver name) = receiver
target_step variable = 0

-- a leaf is 1 high, and another node one higher than the highest of its children
abbrev pub node_step : Node-F ℕ ℕ ℕ ℕ → ℕ
node_step (node.Str pieces at) = suc (highest pieces)
node_step (node.Array items at) = suc (highest items)
node_step (node.Hash pairs at) = suc (highest_pair pairs)
node_step (node.SetLocal name value at) = suc value
node_step (node.SetField name value at) = suc value
node_step (node.SetGlobal name value at) = suc value
node_step (node.Store receiver name args at) = suc (max receiver (highest args))
node_step (node.OpAssign target op value at) = suc (max target value)
node_step (node.Call receiver name args block at) = suc (max (or_none receiver) (max (highest args) (or_none block)))
node_step (node.New class args at) = suc (highest args)
node_step (node.ThreadNew args body at) = suc (highest args)
node_step (node.And left right at) = suc (max left right)
node_step (node.Or left right at) = suc (max left right)
node_step (node.Not value at) = suc value
node_step (node.If condition first second at) = suc (max condition (max (highest first) (highest second)))
node_step (node.While condition body at) = suc (max condition (highest body))
node_step (node.Return value at) = suc (or_none value)
node_step leaf = 1

-- the height of a node
unfoldable pub height : Node → ℕ
height = fold-Node ℕ ℕ ℕ ℕ node_step piece_step target_step block_step

-- the heights of a pair of nodes
abbrev pub pair_heights : Node × Node → ℕ × ℕ
pair_heights pair = (height pair.0, height pair.1)

-- the height of the code in a text's part, 0 where it is bytes
unfoldable pub piece_height : Piece → ℕ
piece_height = fold-Piece ℕ ℕ ℕ ℕ node_step piece_step target_step block_step

-- the height of the highest node in a target, 0 where it has none
unfoldable pub target_height : Target → ℕ
target_height = fold-Target ℕ ℕ ℕ ℕ node_step piece_step target_step block_step

-- the height of the highest node of a block, 0 where it is empty
unfoldable pub block_height : Block → ℕ
block_height = fold-Block ℕ ℕ ℕ ℕ node_step piece_step target_step block_step
