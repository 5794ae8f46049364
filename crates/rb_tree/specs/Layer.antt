-- One layer of the tree.
use Rattle.rb_tree.specs.declared.node.Node.{Node}
use Rattle.rb_tree.specs.declared.node.Piece.{Piece}
use Rattle.rb_tree.specs.declared.node.Target.{Target}
use Rattle.rb_tree.specs.declared.node.Block.{Block}
use Rattle.rb_tree.specs.declared.node.Node.TheOpen.{Node-F}

-- a node, with the nodes in it as they are
abbrev pub NodeLayer : Type 0
NodeLayer = Node-F Node Piece Target Block
