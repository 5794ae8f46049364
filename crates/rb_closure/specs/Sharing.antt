-- Whether a program starts no thread, and whether it names no global variable either.
use Rattle.std.specs.Prelude.{Bool, true, false, ◌&&◌, List, [], ◌∷◌, map, Option, Some, None}
use Rattle.rb_tree.specs.declared.node.Node.{Node, fold-Node}
use Rattle.rb_tree.specs.declared.node.Piece.{Piece, fold-Piece}
use Rattle.rb_tree.specs.declared.node.Target.{Target, fold-Target}
use Rattle.rb_tree.specs.declared.node.Block.{Block, fold-Block}
use Rattle.rb_tree.specs.declared.node.Node.TheOpen.{Node-F, Piece-F, Target-F, Block-F}
use Rattle.rb_tree.specs.declared.node.Node.TheOpen as node
use Rattle.rb_tree.specs.declared.node.Program.{Program}
use Rattle.rb_tree.specs.declared.node.Class.{Class}
use Rattle.rb_tree.specs.declared.node.Method.{Method}

-- whether all hold
abbrev pub all_hold : List Bool → Bool
all_hold [] = true
all_hold (b ∷ bs) = b && all_hold bs

-- whether it holds, where there is one
abbrev pub holds_if : Option Bool → Bool
holds_if None = true
holds_if (Some b) = b

-- What has no start of a thread, and a global variable only where these may be named.
module _ (named : Bool) where
  abbrev pub target_step : Target-F Bool Bool Bool Bool → Bool
  target_step (node.«Target::Global» name) = named
  target_step (node.Index receiver index) = receiver && index
  target_step (node.Attribute receiver name) = receiver
  target_step target = true

  abbrev pub piece_step : Piece-F Bool Bool Bool Bool → Bool
  piece_step (node.Text text) = true
  piece_step (node.Code code) = code

  abbrev pub block_step : Block-F Bool Bool Bool Bool → Bool
  block_step block = all_hold block.body

  -- one layer of a node, by its parts
  abbrev pub node_step : Node-F Bool Bool Bool Bool → Bool
  node_step (node.Str pieces at) = all_hold pieces
  node_step (node.Array items at) = all_hold items
  node_step (node.Hash pairs at) = all_hold (map (λ (p : Bool × Bool). p.0 && p.1) pairs)
  node_step (node.«Node::Global» name at) = named
  node_step (node.SetLocal name value at) = value
  node_step (node.SetField name value at) = value
  node_step (node.SetGlobal name value at) = named && value
  node_step (node.Store receiver name args at) = receiver && all_hold args
  node_step (node.OpAssign target op value at) = target && value
  node_step (node.Call receiver name args block at) = holds_if receiver && (holds_if block && all_hold args)
  node_step (node.New class args at) = all_hold args
  node_step (node.ThreadNew args body at) = false
  node_step (node.And first second at) = first && second
  node_step (node.Or first second at) = first && second
  node_step (node.Not value at) = value
  node_step (node.If condition first second at) = condition && (all_hold first && all_hold second)
  node_step (node.While condition body at) = condition && all_hold body
  node_step (node.Return value at) = holds_if value
  node_step leaf = true

  -- whether a node is so, with all in it; the same of a piece of a text, a target and a block
  unfoldable pub free_in : Node → Bool
  free_in = fold-Node Bool Bool Bool Bool node_step piece_step target_step block_step

  unfoldable pub free_in_piece : Piece → Bool
  free_in_piece = fold-Piece Bool Bool Bool Bool node_step piece_step target_step block_step

  unfoldable pub free_in_target : Target → Bool
  free_in_target = fold-Target Bool Bool Bool Bool node_step piece_step target_step block_step

  unfoldable pub free_in_block : Block → Bool
  free_in_block = fold-Block Bool Bool Bool Bool node_step piece_step target_step block_step

  -- statements, methods and classes
  abbrev pub free_in_all : List Node → Bool
  free_in_all nodes = all_hold (map free_in nodes)

  abbrev pub free_in_method : Method → Bool
  free_in_method m = free_in_all m.body

  abbrev pub free_in_class : Class → Bool
  free_in_class k = all_hold (map free_in_method k.methods)

  -- a program, in its classes, the methods of its top level, the top level itself, and the bodies of its threads
  abbrev pub free_in_program : Program → Bool
  free_in_program program =
      all_hold (map free_in_class program.classes)
      && (all_hold (map free_in_method program.functions) && (free_in_all program.main && all_hold (map free_in_block program.bodies)))

-- whether a program starts no thread
abbrev pub starts_none : Program → Bool
starts_none = free_in_program true

-- whether it starts none, and names no global variable
abbrev pub shares_none : Program → Bool
shares_none = free_in_program false
