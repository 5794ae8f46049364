-- Where each node stands.
use Rattle.std.proofs.Common.{◌≡◌, ℕ, List, Option, rules}
use Rattle.std.specs.Prelude.{ℤ}
use Rattle.rb_tree.specs.declared.span.Span.{Span}
use Rattle.rb_tree.specs.declared.span.NameId.{NameId}
use Rattle.rb_tree.specs.declared.node.AssignOp.{AssignOp}
use Rattle.rb_tree.specs.declared.node.Node.{Node, out-Node, the_lemmas}
use Rattle.rb_tree.specs.declared.node.Node.TheVariants as node
use Rattle.rb_tree.specs.declared.node.Piece.{Piece}
use Rattle.rb_tree.specs.declared.node.Target.{Target}
use Rattle.rb_tree.specs.declared.node.Block.{Block}
use Rattle.rb_tree.specs.Place.{place}

pub place-nil : (at : Span) → place (out-Node (node.Nil at)) ≡ at
place-nil at = search (rules, the_lemmas)

pub place-false : (at : Span) → place (out-Node (node.False at)) ≡ at
place-false at = search (rules, the_lemmas)

pub place-true : (at : Span) → place (out-Node (node.True at)) ≡ at
place-true at = search (rules, the_lemmas)

pub place-self : (at : Span) → place (out-Node (node.SelfRef at)) ≡ at
place-self at = search (rules, the_lemmas)

pub place-int : (n : ℤ) (at : Span) → place (out-Node (node.Int n at)) ≡ at
place-int n at = search (rules, the_lemmas)

pub place-sym : (name : NameId) (at : Span) → place (out-Node (node.Sym name at)) ≡ at
place-sym name at = search (rules, the_lemmas)

pub place-str : (pieces : List Piece) (at : Span) → place (out-Node (node.Str pieces at)) ≡ at
place-str pieces at = search (rules, the_lemmas)

pub place-array : (items : List Node) (at : Span) → place (out-Node (node.Array items at)) ≡ at
place-array items at = search (rules, the_lemmas)

pub place-hash : (pairs : List (Node × Node)) (at : Span) → place (out-Node (node.Hash pairs at)) ≡ at
place-hash pairs at = search (rules, the_lemmas)

pub place-local : (name : NameId) (at : Span) → place (out-Node (node.Local name at)) ≡ at
place-local name at = search (rules, the_lemmas)

pub place-field : (name : NameId) (at : Span) → place (out-Node (node.Field name at)) ≡ at
place-field name at = search (rules, the_lemmas)

pub place-global : (name : NameId) (at : Span) → place (out-Node (node.Global name at)) ≡ at
place-global name at = search (rules, the_lemmas)

pub place-set_local : (name : NameId) (value : Node) (at : Span) → place (out-Node (node.SetLocal name value at)) ≡ at
place-set_local name value at = search (rules, the_lemmas)

pub place-set_field : (name : NameId) (value : Node) (at : Span) → place (out-Node (node.SetField name value at)) ≡ at
place-set_field name value at = search (rules, the_lemmas)

pub place-set_global : (name : NameId) (value : Node) (at : Span) → place (out-Node (node.SetGlobal name value at)) ≡ at
place-set_global name value at = search (rules, the_lemmas)

pub place-store : (receiver : Node) (name : NameId) (args : List Node) (at : Span) → place (out-Node (node.Store receiver name args at)) ≡ at
place-store receiver name args at = search (rules, the_lemmas)

pub place-op_assign : (written : Target) (op : AssignOp) (value : Node) (at : Span) → place (out-Node (node.OpAssign written op value at)) ≡ at
place-op_assign written op value at = search (rules, the_lemmas)

pub place-call : (receiver : Option Node) (name : NameId) (args : List Node) (block : Option Block) (at : Span) → place (out-Node (node.Call receiver name args block at)) ≡ at
place-call receiver name args block at = search (rules, the_lemmas)

pub place-new : (class : NameId) (args : List Node) (at : Span) → place (out-Node (node.New class args at)) ≡ at
place-new class args at = search (rules, the_lemmas)

pub place-thread_new : (args : List Node) (body : ℕ) (at : Span) → place (out-Node (node.ThreadNew args body at)) ≡ at
place-thread_new args body at = search (rules, the_lemmas)

pub place-and : (left : Node) (right : Node) (at : Span) → place (out-Node (node.And left right at)) ≡ at
place-and left right at = search (rules, the_lemmas)

pub place-or : (left : Node) (right : Node) (at : Span) → place (out-Node (node.Or left right at)) ≡ at
place-or left right at = search (rules, the_lemmas)

pub place-not : (value : Node) (at : Span) → place (out-Node (node.Not value at)) ≡ at
place-not value at = search (rules, the_lemmas)

pub place-if : (condition : Node) (first : List Node) (second : List Node) (at : Span) → place (out-Node (node.If condition first second at)) ≡ at
place-if condition first second at = search (rules, the_lemmas)

pub place-while : (condition : Node) (body : List Node) (at : Span) → place (out-Node (node.While condition body at)) ≡ at
place-while condition body at = search (rules, the_lemmas)

pub place-return : (value : Option Node) (at : Span) → place (out-Node (node.Return value at)) ≡ at
place-return value at = search (rules, the_lemmas)

pub place-break : (at : Span) → place (out-Node (node.Break at)) ≡ at
place-break at = search (rules, the_lemmas)

pub place-next : (at : Span) → place (out-Node (node.Next at)) ≡ at
place-next at = search (rules, the_lemmas)
