-- One layer of the node that code stands for.
use Rattle.std.proofs.Common.{◌≡◌, ℕ, List, [], ◌∷◌, map, Option, Some, None, ap, ◌∙◌, rules}
use Rattle.std.specs.Prelude.{ℤ}
use Rattle.std.specs.Option.{option_map}
use Rattle.rb_tree.specs.declared.span.Span.{Span}
use Rattle.rb_tree.specs.declared.span.NameId.{NameId}
use Rattle.rb_tree.specs.declared.node.AssignOp.{AssignOp}
use Rattle.rb_tree.specs.declared.node.Node.{out-Node}
use Rattle.rb_tree.specs.declared.node.Node.TheOpen as node
use Rattle.rb_tree.specs.declared.node.Target.TheVariants as target
use Rattle.rb_builtin.specs.declared.builtin.Builtin.{Builtin}
use Rattle.rb_render.specs.declared.show.Form.{Form}
use Rattle.rb_tree.specs.declared.node.Node.{the_lemmas}
use Rattle.rb_code.specs.declared.code.BuiltinClass.{BuiltinClass}
use Rattle.rb_code.specs.declared.code.Code.{Code}
use Rattle.rb_code.specs.declared.code.Code.TheVariants as is
use Rattle.rb_code.specs.declared.code.CodePiece.{CodePiece}
use Rattle.rb_code.specs.declared.code.CodeBlock.{CodeBlock}
use Rattle.rb_code.specs.Erase.{erase, erase_piece, erase_block, paired}
use Rattle.rb_code.proofs.Erasing.{erase-nil, erase-false, erase-true, erase-self_ref, erase-int, erase-sym, erase-str, erase-local, erase-set_local, erase-field, erase-set_field, erase-global, erase-set_global, erase-update_global, erase-update_local, erase-update_field, erase-update_element, erase-update_attribute, erase-store, erase-array, erase-hash, erase-new_builtin, erase-operate, erase-send, erase-walk, erase-function, erase-own, erase-new, erase-start, erase-print, erase-and, erase-or, erase-not, erase-if, erase-while, erase-return, erase-break, erase-next}

pub shows-nil : (c : Code) (at : Span) → c ≡ is.Nil at → out-Node (erase c) ≡ node.Nil at
shows-nil c at e = ap (λ c. out-Node (erase c)) e ∙ (ap out-Node (erase-nil at) ∙ search (rules, the_lemmas))

pub shows-false : (c : Code) (at : Span) → c ≡ is.False at → out-Node (erase c) ≡ node.False at
shows-false c at e = ap (λ c. out-Node (erase c)) e ∙ (ap out-Node (erase-false at) ∙ search (rules, the_lemmas))

pub shows-true : (c : Code) (at : Span) → c ≡ is.True at → out-Node (erase c) ≡ node.True at
shows-true c at e = ap (λ c. out-Node (erase c)) e ∙ (ap out-Node (erase-true at) ∙ search (rules, the_lemmas))

pub shows-self_ref : (c : Code) (at : Span) → c ≡ is.SelfRef at → out-Node (erase c) ≡ node.SelfRef at
shows-self_ref c at e = ap (λ c. out-Node (erase c)) e ∙ (ap out-Node (erase-self_ref at) ∙ search (rules, the_lemmas))

pub shows-int : (c : Code) (n : ℤ) (at : Span) → c ≡ is.Int n at → out-Node (erase c) ≡ node.Int n at
shows-int c n at e = ap (λ c. out-Node (erase c)) e ∙ (ap out-Node (erase-int n at) ∙ search (rules, the_lemmas))

pub shows-sym : (c : Code) (name : NameId) (at : Span) → c ≡ is.Sym name at → out-Node (erase c) ≡ node.Sym name at
shows-sym c name at e = ap (λ c. out-Node (erase c)) e ∙ (ap out-Node (erase-sym name at) ∙ search (rules, the_lemmas))

pub shows-str : (c : Code) (pieces : List CodePiece) (at : Span) → c ≡ is.Str pieces at → out-Node (erase c) ≡ node.Str (map erase_piece pieces) at
shows-str c pieces at e = ap (λ c. out-Node (erase c)) e ∙ (ap out-Node (erase-str pieces at) ∙ search (rules, the_lemmas))

pub shows-local : (c : Code) (slot : ℕ) (name : NameId) (at : Span) → c ≡ is.Local slot name at → out-Node (erase c) ≡ node.«Node::Local» name at
shows-local c slot name at e = ap (λ c. out-Node (erase c)) e ∙ (ap out-Node (erase-local slot name at) ∙ search (rules, the_lemmas))

pub shows-set_local : (c : Code) (slot : ℕ) (name : NameId) (value : Code) (at : Span) → c ≡ is.SetLocal slot name value at → out-Node (erase c) ≡ node.SetLocal name (erase value) at
shows-set_local c slot name value at e = ap (λ c. out-Node (erase c)) e ∙ (ap out-Node (erase-set_local slot name value at) ∙ search (rules, the_lemmas))

pub shows-field : (c : Code) (name : NameId) (at : Span) → c ≡ is.Field name at → out-Node (erase c) ≡ node.«Node::Field» name at
shows-field c name at e = ap (λ c. out-Node (erase c)) e ∙ (ap out-Node (erase-field name at) ∙ search (rules, the_lemmas))

pub shows-global : (c : Code) (name : NameId) (at : Span) → c ≡ is.Global name at → out-Node (erase c) ≡ node.«Node::Global» name at
shows-global c name at e = ap (λ c. out-Node (erase c)) e ∙ (ap out-Node (erase-global name at) ∙ search (rules, the_lemmas))

pub shows-set_field : (c : Code) (name : NameId) (value : Code) (at : Span) → c ≡ is.SetField name value at → out-Node (erase c) ≡ node.SetField name (erase value) at
shows-set_field c name value at e = ap (λ c. out-Node (erase c)) e ∙ (ap out-Node (erase-set_field name value at) ∙ search (rules, the_lemmas))

pub shows-set_global : (c : Code) (name : NameId) (value : Code) (at : Span) → c ≡ is.SetGlobal name value at → out-Node (erase c) ≡ node.SetGlobal name (erase value) at
shows-set_global c name value at e = ap (λ c. out-Node (erase c)) e ∙ (ap out-Node (erase-set_global name value at) ∙ search (rules, the_lemmas))

pub shows-update_local : (c : Code) (slot : ℕ) (name : NameId) (op : AssignOp) (value : Code) (at : Span) → c ≡ is.UpdateLocal slot name op value at → out-Node (erase c) ≡ node.OpAssign (target.Local name) op (erase value) at
shows-update_local c slot name op value at e = ap (λ c. out-Node (erase c)) e ∙ (ap out-Node (erase-update_local slot name op value at) ∙ search (rules, the_lemmas))

pub shows-update_field : (c : Code) (name : NameId) (op : AssignOp) (value : Code) (at : Span) → c ≡ is.UpdateField name op value at → out-Node (erase c) ≡ node.OpAssign (target.Field name) op (erase value) at
shows-update_field c name op value at e = ap (λ c. out-Node (erase c)) e ∙ (ap out-Node (erase-update_field name op value at) ∙ search (rules, the_lemmas))

pub shows-update_global : (c : Code) (name : NameId) (op : AssignOp) (value : Code) (at : Span) → c ≡ is.UpdateGlobal name op value at → out-Node (erase c) ≡ node.OpAssign (target.Global name) op (erase value) at
shows-update_global c name op value at e = ap (λ c. out-Node (erase c)) e ∙ (ap out-Node (erase-update_global name op value at) ∙ search (rules, the_lemmas))

pub shows-update_element : (c : Code) (receiver : Code) (index : Code) (op : AssignOp) (value : Code) (at : Span) → c ≡ is.UpdateElement receiver index op value at → out-Node (erase c) ≡ node.OpAssign (target.Index (erase receiver) (erase index)) op (erase value) at
shows-update_element c receiver index op value at e = ap (λ c. out-Node (erase c)) e ∙ (ap out-Node (erase-update_element receiver index op value at) ∙ search (rules, the_lemmas))

pub shows-update_attribute : (c : Code) (number : Option Builtin) (writer : Option NameId) (name : NameId) (receiver : Code) (op : AssignOp) (value : Code) (at : Span) → c ≡ is.UpdateAttribute number writer name receiver op value at → out-Node (erase c) ≡ node.OpAssign (target.Attribute (erase receiver) name) op (erase value) at
shows-update_attribute c number writer name receiver op value at e = ap (λ c. out-Node (erase c)) e ∙ (ap out-Node (erase-update_attribute number writer name receiver op value at) ∙ search (rules, the_lemmas))

pub shows-store : (c : Code) (number : Option Builtin) (receiver : Code) (name : NameId) (args : List Code) (at : Span) → c ≡ is.Store number receiver name args at → out-Node (erase c) ≡ node.Store (erase receiver) name (map erase args) at
shows-store c number receiver name args at e = ap (λ c. out-Node (erase c)) e ∙ (ap out-Node (erase-store number receiver name args at) ∙ search (rules, the_lemmas))

pub shows-array : (c : Code) (items : List Code) (at : Span) → c ≡ is.Array items at → out-Node (erase c) ≡ node.Array (map erase items) at
shows-array c items at e = ap (λ c. out-Node (erase c)) e ∙ (ap out-Node (erase-array items at) ∙ search (rules, the_lemmas))

pub shows-hash : (c : Code) (items : List Code) (at : Span) → c ≡ is.Hash items at → out-Node (erase c) ≡ node.Hash (paired (map erase items)) at
shows-hash c items at e = ap (λ c. out-Node (erase c)) e ∙ (ap out-Node (erase-hash items at) ∙ search (rules, the_lemmas))

pub shows-new_builtin : (c : Code) (class : BuiltinClass) (name : NameId) (args : List Code) (at : Span) → c ≡ is.NewBuiltin class name args at → out-Node (erase c) ≡ node.New name (map erase args) at
shows-new_builtin c class name args at e = ap (λ c. out-Node (erase c)) e ∙ (ap out-Node (erase-new_builtin class name args at) ∙ search (rules, the_lemmas))

pub shows-operate : (c : Code) (number : Option Builtin) (name : NameId) (left : Code) (right : Code) (at : Span) → c ≡ is.Operate number name left right at → out-Node (erase c) ≡ node.Call (Some (erase left)) name (erase right ∷ []) None at
shows-operate c number name left right at e = ap (λ c. out-Node (erase c)) e ∙ (ap out-Node (erase-operate number name left right at) ∙ search (rules, the_lemmas))

pub shows-send : (c : Code) (number : Option Builtin) (name : NameId) (receiver : Code) (args : List Code) (at : Span) → c ≡ is.Send number name receiver args at → out-Node (erase c) ≡ node.Call (Some (erase receiver)) name (map erase args) None at
shows-send c number name receiver args at e = ap (λ c. out-Node (erase c)) e ∙ (ap out-Node (erase-send number name receiver args at) ∙ search (rules, the_lemmas))

pub shows-walk : (c : Code) (number : Option Builtin) (name : NameId) (receiver : Code) (args : List Code) (block : CodeBlock) (at : Span) → c ≡ is.Walk number name receiver args block at → out-Node (erase c) ≡ node.Call (Some (erase receiver)) name (map erase args) (Some (erase_block block)) at
shows-walk c number name receiver args block at e = ap (λ c. out-Node (erase c)) e ∙ (ap out-Node (erase-walk number name receiver args block at) ∙ search (rules, the_lemmas))

pub shows-function : (c : Code) (number : ℕ) (name : NameId) (args : List Code) (at : Span) → c ≡ is.Function number name args at → out-Node (erase c) ≡ node.Call None name (map erase args) None at
shows-function c number name args at e = ap (λ c. out-Node (erase c)) e ∙ (ap out-Node (erase-function number name args at) ∙ search (rules, the_lemmas))

pub shows-own : (c : Code) (name : NameId) (args : List Code) (at : Span) → c ≡ is.Own name args at → out-Node (erase c) ≡ node.Call None name (map erase args) None at
shows-own c name args at e = ap (λ c. out-Node (erase c)) e ∙ (ap out-Node (erase-own name args at) ∙ search (rules, the_lemmas))

pub shows-new : (c : Code) (class : ℕ) (first : Option ℕ) (name : NameId) (args : List Code) (at : Span) → c ≡ is.New class first name args at → out-Node (erase c) ≡ node.New name (map erase args) at
shows-new c class first name args at e = ap (λ c. out-Node (erase c)) e ∙ (ap out-Node (erase-new class first name args at) ∙ search (rules, the_lemmas))

pub shows-start : (c : Code) (args : List Code) (body : ℕ) (slots : List ℕ) (at : Span) → c ≡ is.Start args body slots at → out-Node (erase c) ≡ node.ThreadNew (map erase args) body at
shows-start c args body slots at e = ap (λ c. out-Node (erase c)) e ∙ (ap out-Node (erase-start args body slots at) ∙ search (rules, the_lemmas))

pub shows-print : (c : Code) (form : Form) (name : NameId) (args : List Code) (at : Span) → c ≡ is.Print form name args at → out-Node (erase c) ≡ node.Call None name (map erase args) None at
shows-print c form name args at e = ap (λ c. out-Node (erase c)) e ∙ (ap out-Node (erase-print form name args at) ∙ search (rules, the_lemmas))

pub shows-and : (c : Code) (left : Code) (right : Code) (at : Span) → c ≡ is.And left right at → out-Node (erase c) ≡ node.And (erase left) (erase right) at
shows-and c left right at e = ap (λ c. out-Node (erase c)) e ∙ (ap out-Node (erase-and left right at) ∙ search (rules, the_lemmas))

pub shows-or : (c : Code) (left : Code) (right : Code) (at : Span) → c ≡ is.Or left right at → out-Node (erase c) ≡ node.Or (erase left) (erase right) at
shows-or c left right at e = ap (λ c. out-Node (erase c)) e ∙ (ap out-Node (erase-or left right at) ∙ search (rules, the_lemmas))

pub shows-not : (c : Code) (value : Code) (at : Span) → c ≡ is.Not value at → out-Node (erase c) ≡ node.Not (erase value) at
shows-not c value at e = ap (λ c. out-Node (erase c)) e ∙ (ap out-Node (erase-not value at) ∙ search (rules, the_lemmas))

pub shows-if : (c : Code) (condition : Code) (first : List Code) (second : List Code) (at : Span) → c ≡ is.If condition first second at → out-Node (erase c) ≡ node.If (erase condition) (map erase first) (map erase second) at
shows-if c condition first second at e = ap (λ c. out-Node (erase c)) e ∙ (ap out-Node (erase-if condition first second at) ∙ search (rules, the_lemmas))

pub shows-while : (c : Code) (condition : Code) (body : List Code) (at : Span) → c ≡ is.While condition body at → out-Node (erase c) ≡ node.While (erase condition) (map erase body) at
shows-while c condition body at e = ap (λ c. out-Node (erase c)) e ∙ (ap out-Node (erase-while condition body at) ∙ search (rules, the_lemmas))

pub shows-return : (c : Code) (value : Option Code) (at : Span) → c ≡ is.Return value at → out-Node (erase c) ≡ node.Return (option_map erase value) at
shows-return c value at e = ap (λ c. out-Node (erase c)) e ∙ (ap out-Node (erase-return value at) ∙ search (rules, the_lemmas))

pub shows-break : (c : Code) (at : Span) → c ≡ is.Break at → out-Node (erase c) ≡ node.Break at
shows-break c at e = ap (λ c. out-Node (erase c)) e ∙ (ap out-Node (erase-break at) ∙ search (rules, the_lemmas))

pub shows-next : (c : Code) (at : Span) → c ≡ is.Next at → out-Node (erase c) ≡ node.Next at
shows-next c at e = ap (λ c. out-Node (erase c)) e ∙ (ap out-Node (erase-next at) ∙ search (rules, the_lemmas))
