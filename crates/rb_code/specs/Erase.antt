-- The syntax tree that a resolved tree stands for.
use Rattle.std.specs.Prelude.{List, [], ◌∷◌, Some, None, map}
use Rattle.rb_tree.specs.declared.node.Node.{Node}
use Rattle.rb_tree.specs.declared.node.Node.TheVariants as tree
use Rattle.rb_tree.specs.declared.node.Piece.{Piece}
use Rattle.rb_tree.specs.declared.node.Piece.TheVariants as piece
use Rattle.rb_tree.specs.declared.node.Target.TheVariants as target
use Rattle.rb_tree.specs.declared.node.Block.{Block}
use Rattle.rb_tree.specs.declared.node.Method.{Method}
use Rattle.rb_tree.specs.declared.node.Class.{Class}
use Rattle.rb_code.specs.declared.code.Code.{Code, fold-Code}
use Rattle.rb_code.specs.declared.code.CodePiece.{CodePiece, fold-CodePiece}
use Rattle.rb_code.specs.declared.code.CodeBlock.{CodeBlock, fold-CodeBlock}
use Rattle.rb_code.specs.declared.code.Code.TheOpen.{Code-F, CodePiece-F, CodeBlock-F}
use Rattle.rb_code.specs.declared.code.Code.TheOpen as code
use Rattle.rb_code.specs.declared.scripted.CodeBody.{CodeBody}
use Rattle.rb_code.specs.declared.scripted.CodeMethod.{CodeMethod}
use Rattle.rb_code.specs.declared.scripted.CodeClass.{CodeClass}

abbrev pub erase_block_step : CodeBlock-F Node Piece Block → Block
erase_block_step b = record { params = b.params; body = b.body; at = b.at }

abbrev pub erase_piece_step : CodePiece-F Node Piece Block → Piece
erase_piece_step (code.Text text) = piece.Text text
erase_piece_step (code.Code c) = piece.Code c

-- keys and values by turns, as pairs
abbrev pub paired : {X : Type 0} → List X → List (X × X)
paired (k ∷ v ∷ vs) = (k, v) ∷ paired vs
paired others = []

-- one layer, with the nodes of its parts: numbers go, names stay
abbrev pub erase_step : Code-F Node Piece Block → Node
erase_step (code.Nil at) = tree.Nil at
erase_step (code.False at) = tree.False at
erase_step (code.True at) = tree.True at
erase_step (code.SelfRef at) = tree.SelfRef at
erase_step (code.Int n at) = tree.Int n at
erase_step (code.Sym name at) = tree.Sym name at
erase_step (code.Str pieces at) = tree.Str pieces at
erase_step (code.Array items at) = tree.Array items at
erase_step (code.Hash items at) = tree.Hash (paired items) at
erase_step (code.Local slot name at) = tree.Local name at
erase_step (code.SetLocal slot name value at) = tree.SetLocal name value at
erase_step (code.Field name at) = tree.Field name at
erase_step (code.SetField name value at) = tree.SetField name value at
erase_step (code.Global name at) = tree.Global name at
erase_step (code.SetGlobal name value at) = tree.SetGlobal name value at
erase_step (code.UpdateLocal slot name op value at) = tree.OpAssign (target.Local name) op value at
erase_step (code.UpdateField name op value at) = tree.OpAssign (target.Field name) op value at
erase_step (code.UpdateGlobal name op value at) = tree.OpAssign (target.Global name) op value at
erase_step (code.UpdateElement receiver index op value at) = tree.OpAssign (target.Index receiver index) op value at
erase_step (code.UpdateAttribute number writer name receiver op value at) = tree.OpAssign (target.Attribute receiver name) op value at
erase_step (code.Store number receiver name args at) = tree.Store receiver name args at
erase_step (code.Operate number name left right at) = tree.Call (Some left) name (right ∷ []) None at
erase_step (code.Send number name receiver args at) = tree.Call (Some receiver) name args None at
erase_step (code.Walk number name receiver args block at) = tree.Call (Some receiver) name args (Some block) at
erase_step (code.Function number name args at) = tree.Call None name args None at
erase_step (code.Own name args at) = tree.Call None name args None at
erase_step (code.New class first name args at) = tree.New name args at
erase_step (code.NewBuiltin class name args at) = tree.New name args at
erase_step (code.Start args body slots at) = tree.ThreadNew args body at
erase_step (code.Print form name args at) = tree.Call None name args None at
erase_step (code.And left right at) = tree.And left right at
erase_step (code.Or left right at) = tree.Or left right at
erase_step (code.Not value at) = tree.Not value at
erase_step (code.If condition first second at) = tree.If condition first second at
erase_step (code.While condition body at) = tree.While condition body at
erase_step (code.Return value at) = tree.Return value at
erase_step (code.Break at) = tree.Break at
erase_step (code.Next at) = tree.Next at

-- the node, the piece and the block that code stands for
unfoldable pub erase : Code → Node
erase = fold-Code Node Piece Block erase_step erase_piece_step erase_block_step

unfoldable pub erase_piece : CodePiece → Piece
erase_piece = fold-CodePiece Node Piece Block erase_step erase_piece_step erase_block_step

unfoldable pub erase_block : CodeBlock → Block
erase_block = fold-CodeBlock Node Piece Block erase_step erase_piece_step erase_block_step

-- a method without its numbers
abbrev pub erase_method : CodeMethod → Method
erase_method m = record { name = m.name; params = m.params; body = map erase m.body; at = m.at }

-- the body of a thread without its numbers and what it captures
abbrev pub erase_body : CodeBody → Block
erase_body b = record { params = b.params; body = map erase b.body; at = b.at }

-- and a class
abbrev pub erase_class : CodeClass → Class
erase_class c = record { name = c.name; methods = map erase_method c.methods; at = c.at }
