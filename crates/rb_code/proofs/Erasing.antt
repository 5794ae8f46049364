-- One layer of what code stands for.
use Rattle.std.proofs.Common.{◌≡◌, ℕ, List, [], ◌∷◌, map, Option, Some, None, rules}
use Rattle.std.specs.Prelude.{ℤ}
use Rattle.std.specs.Option.{option_map}
use Rattle.rb_tree.specs.declared.span.Span.{Span}
use Rattle.rb_tree.specs.declared.span.NameId.{NameId}
use Rattle.rb_tree.specs.declared.node.AssignOp.{AssignOp}
use Rattle.rb_tree.specs.declared.node.Node.TheVariants as tree
use Rattle.rb_tree.specs.declared.node.Piece.TheVariants as piece
use Rattle.rb_tree.specs.declared.node.Target.TheVariants as target
use Rattle.rb_builtin.specs.declared.builtin.Builtin.{Builtin}
use Rattle.rb_render.specs.declared.show.Form.{Form}
use Rattle.rb_code.specs.declared.code.BuiltinClass.{BuiltinClass}
use Rattle.rb_code.specs.declared.code.Code.{Code, the_lemmas}
use Rattle.rb_code.specs.declared.code.Code.TheVariants as is
use Rattle.rb_code.specs.declared.code.CodePiece.{CodePiece}
use Rattle.rb_code.specs.declared.code.CodePiece.TheVariants as part
use Rattle.rb_code.specs.declared.code.CodeBlock.{CodeBlock}
use Rattle.rb_code.specs.Erase.{erase, erase_piece, erase_block, paired}

pub erase-nil : (at : Span) → erase (is.Nil at) ≡ tree.Nil at
unfolding erase erase_piece erase_block
erase-nil at = search (rules, the_lemmas)

pub erase-false : (at : Span) → erase (is.False at) ≡ tree.False at
unfolding erase erase_piece erase_block
erase-false at = search (rules, the_lemmas)

pub erase-true : (at : Span) → erase (is.True at) ≡ tree.True at
unfolding erase erase_piece erase_block
erase-true at = search (rules, the_lemmas)

pub erase-self_ref : (at : Span) → erase (is.SelfRef at) ≡ tree.SelfRef at
unfolding erase erase_piece erase_block
erase-self_ref at = search (rules, the_lemmas)

pub erase-int : (n : ℤ) (at : Span) → erase (is.Int n at) ≡ tree.Int n at
unfolding erase erase_piece erase_block
erase-int n at = search (rules, the_lemmas)

pub erase-sym : (name : NameId) (at : Span) → erase (is.Sym name at) ≡ tree.Sym name at
unfolding erase erase_piece erase_block
erase-sym name at = search (rules, the_lemmas)

pub erase-str : (pieces : List CodePiece) (at : Span) → erase (is.Str pieces at) ≡ tree.Str (map erase_piece pieces) at
unfolding erase erase_piece erase_block
erase-str pieces at = search (rules, the_lemmas)

pub erase-local : (slot : ℕ) (name : NameId) (at : Span) → erase (is.Local slot name at) ≡ tree.Local name at
unfolding erase erase_piece erase_block
erase-local slot name at = search (rules, the_lemmas)

pub erase-set_local : (slot : ℕ) (name : NameId) (value : Code) (at : Span) → erase (is.SetLocal slot name value at) ≡ tree.SetLocal name (erase value) at
unfolding erase erase_piece erase_block
erase-set_local slot name value at = search (rules, the_lemmas)

pub erase-field : (name : NameId) (at : Span) → erase (is.Field name at) ≡ tree.Field name at
unfolding erase erase_piece erase_block
erase-field name at = search (rules, the_lemmas)

pub erase-global : (name : NameId) (at : Span) → erase (is.Global name at) ≡ tree.Global name at
unfolding erase erase_piece erase_block
erase-global name at = search (rules, the_lemmas)

pub erase-set_field : (name : NameId) (value : Code) (at : Span) → erase (is.SetField name value at) ≡ tree.SetField name (erase value) at
unfolding erase erase_piece erase_block
erase-set_field name value at = search (rules, the_lemmas)

pub erase-set_global : (name : NameId) (value : Code) (at : Span) → erase (is.SetGlobal name value at) ≡ tree.SetGlobal name (erase value) at
unfolding erase erase_piece erase_block
erase-set_global name value at = search (rules, the_lemmas)

pub erase-update_local : (slot : ℕ) (name : NameId) (op : AssignOp) (value : Code) (at : Span) → erase (is.UpdateLocal slot name op value at) ≡ tree.OpAssign (target.Local name) op (erase value) at
unfolding erase erase_piece erase_block
erase-update_local slot name op value at = search (rules, the_lemmas)

pub erase-update_field : (name : NameId) (op : AssignOp) (value : Code) (at : Span) → erase (is.UpdateField name op value at) ≡ tree.OpAssign (target.Field name) op (erase value) at
unfolding erase erase_piece erase_block
erase-update_field name op value at = search (rules, the_lemmas)

pub erase-update_global : (name : NameId) (op : AssignOp) (value : Code) (at : Span) → erase (is.UpdateGlobal name op value at) ≡ tree.OpAssign (target.Global name) op (erase value) at
unfolding erase erase_piece erase_block
erase-update_global name op value at = search (rules, the_lemmas)

pub erase-update_element : (receiver : Code) (index : Code) (op : AssignOp) (value : Code) (at : Span) → erase (is.UpdateElement receiver index op value at) ≡ tree.OpAssign (target.Index (erase receiver) (erase index)) op (erase value) at
unfolding erase erase_piece erase_block
erase-update_element receiver index op value at = search (rules, the_lemmas)

pub erase-update_attribute : (number : Option Builtin) (writer : Option NameId) (name : NameId) (receiver : Code) (op : AssignOp) (value : Code) (at : Span) → erase (is.UpdateAttribute number writer name receiver op value at) ≡ tree.OpAssign (target.Attribute (erase receiver) name) op (erase value) at
unfolding erase erase_piece erase_block
erase-update_attribute number writer name receiver op value at = search (rules, the_lemmas)

pub erase-store : (number : Option Builtin) (receiver : Code) (name : NameId) (args : List Code) (at : Span) → erase (is.Store number receiver name args at) ≡ tree.Store (erase receiver) name (map erase args) at
unfolding erase erase_piece erase_block
erase-store number receiver name args at = search (rules, the_lemmas)

pub erase-array : (items : List Code) (at : Span) → erase (is.Array items at) ≡ tree.Array (map erase items) at
unfolding erase erase_piece erase_block
erase-array items at = search (rules, the_lemmas)

pub erase-hash : (items : List Code) (at : Span) → erase (is.Hash items at) ≡ tree.Hash (paired (map erase items)) at
unfolding erase erase_piece erase_block
erase-hash items at = search (rules, the_lemmas)

pub erase-new_builtin : (class : BuiltinClass) (name : NameId) (args : List Code) (at : Span) → erase (is.NewBuiltin class name args at) ≡ tree.New name (map erase args) at
unfolding erase erase_piece erase_block
erase-new_builtin class name args at = search (rules, the_lemmas)

pub erase-operate : (number : Option Builtin) (name : NameId) (left : Code) (right : Code) (at : Span) → erase (is.Operate number name left right at) ≡ tree.Call (Some (erase left)) name (erase right ∷ []) None at
unfolding erase erase_piece erase_block
erase-operate number name left right at = search (rules, the_lemmas)

pub erase-send : (number : Option Builtin) (name : NameId) (receiver : Code) (args : List Code) (at : Span) → erase (is.Send number name receiver args at) ≡ tree.Call (Some (erase receiver)) name (map erase args) None at
unfolding erase erase_piece erase_block
erase-send number name receiver args at = search (rules, the_lemmas)

pub erase-walk : (number : Option Builtin) (name : NameId) (receiver : Code) (args : List Code) (block : CodeBlock) (at : Span) → erase (is.Walk number name receiver args block at) ≡ tree.Call (Some (erase receiver)) name (map erase args) (Some (erase_block block)) at
unfolding erase erase_piece erase_block
erase-walk number name receiver args block at = search (rules, the_lemmas)

pub erase-function : (number : ℕ) (name : NameId) (args : List Code) (at : Span) → erase (is.Function number name args at) ≡ tree.Call None name (map erase args) None at
unfolding erase erase_piece erase_block
erase-function number name args at = search (rules, the_lemmas)

pub erase-own : (name : NameId) (args : List Code) (at : Span) → erase (is.Own name args at) ≡ tree.Call None name (map erase args) None at
unfolding erase erase_piece erase_block
erase-own name args at = search (rules, the_lemmas)

pub erase-new : (class : ℕ) (first : Option ℕ) (name : NameId) (args : List Code) (at : Span) → erase (is.New class first name args at) ≡ tree.New name (map erase args) at
unfolding erase erase_piece erase_block
erase-new class first name args at = search (rules, the_lemmas)

pub erase-start : (args : List Code) (body : ℕ) (slots : List ℕ) (at : Span) → erase (is.Start args body slots at) ≡ tree.ThreadNew (map erase args) body at
unfolding erase erase_piece erase_block
erase-start args body slots at = search (rules, the_lemmas)

pub erase-print : (form : Form) (name : NameId) (args : List Code) (at : Span) → erase (is.Print form name args at) ≡ tree.Call None name (map erase args) None at
unfolding erase erase_piece erase_block
erase-print form name args at = search (rules, the_lemmas)

pub erase-and : (left : Code) (right : Code) (at : Span) → erase (is.And left right at) ≡ tree.And (erase left) (erase right) at
unfolding erase erase_piece erase_block
erase-and left right at = search (rules, the_lemmas)

pub erase-or : (left : Code) (right : Code) (at : Span) → erase (is.Or left right at) ≡ tree.Or (erase left) (erase right) at
unfolding erase erase_piece erase_block
erase-or left right at = search (rules, the_lemmas)

pub erase-not : (value : Code) (at : Span) → erase (is.Not value at) ≡ tree.Not (erase value) at
unfolding erase erase_piece erase_block
erase-not value at = search (rules, the_lemmas)

pub erase-if : (condition : Code) (first : List Code) (second : List Code) (at : Span) → erase (is.If condition first second at) ≡ tree.If (erase condition) (map erase first) (map erase second) at
unfolding erase erase_piece erase_block
erase-if condition first second at = search (rules, the_lemmas)

pub erase-while : (condition : Code) (body : List Code) (at : Span) → erase (is.While condition body at) ≡ tree.While (erase condition) (map erase body) at
unfolding erase erase_piece erase_block
erase-while condition body at = search (rules, the_lemmas)

pub erase-return : (value : Option Code) (at : Span) → erase (is.Return value at) ≡ tree.Return (option_map erase value) at
unfolding erase erase_piece erase_block
erase-return value at = search (rules, the_lemmas)

pub erase-break : (at : Span) → erase (is.Break at) ≡ tree.Break at
unfolding erase erase_piece erase_block
erase-break at = search (rules, the_lemmas)

pub erase-next : (at : Span) → erase (is.Next at) ≡ tree.Next at
unfolding erase erase_piece erase_block
erase-next at = search (rules, the_lemmas)

pub erase_piece-text : (bytes : List ℕ) → erase_piece (part.Text bytes) ≡ piece.Text bytes
unfolding erase erase_piece erase_block
erase_piece-text bytes = search (rules, the_lemmas)

pub erase_piece-code : (c : Code) → erase_piece (part.Code c) ≡ piece.Code (erase c)
unfolding erase erase_piece erase_block
erase_piece-code c = search (rules, the_lemmas)

pub erase_block-parts : (b : CodeBlock) → erase_block b ≡ record { params = b.params; body = map erase b.body; at = b.at }
unfolding erase erase_piece erase_block
erase_block-parts b = search (rules, the_lemmas)
