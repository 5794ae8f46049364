-- The height of each node from its parts.
use Rattle.std.proofs.Common.{◌≡◌, ℕ, suc, List, map, max, Option, rules}
use Rattle.std.specs.Prelude.{ℤ}
use Rattle.std.specs.Option.{option_map}
use Rattle.rb_tree.specs.declared.span.Span.{Span}
use Rattle.rb_tree.specs.declared.span.NameId.{NameId}
use Rattle.rb_tree.specs.declared.node.AssignOp.{AssignOp}
use Rattle.rb_tree.specs.declared.node.Node.{Node, the_lemmas}
use Rattle.rb_tree.specs.declared.node.Node.TheVariants as node
use Rattle.rb_tree.specs.declared.node.Piece.{Piece}
use Rattle.rb_tree.specs.declared.node.Piece.TheVariants as piece
use Rattle.rb_tree.specs.declared.node.Target.{Target}
use Rattle.rb_tree.specs.declared.node.Target.TheVariants as target
use Rattle.rb_tree.specs.declared.node.Block.{Block, out-Block}
use Rattle.rb_tree.specs.Height.{height, highest, highest_pair, or_none, pair_heights, piece_height, target_height, block_height}

pub height-nil : (at : Span) → height (node.Nil at) ≡ 1
unfolding height
height-nil at = search (rules, the_lemmas)

pub height-false : (at : Span) → height (node.False at) ≡ 1
unfolding height
height-false at = search (rules, the_lemmas)

pub height-true : (at : Span) → height (node.True at) ≡ 1
unfolding height
height-true at = search (rules, the_lemmas)

pub height-self : (at : Span) → height (node.SelfRef at) ≡ 1
unfolding height
height-self at = search (rules, the_lemmas)

pub height-int : (n : ℤ) (at : Span) → height (node.Int n at) ≡ 1
unfolding height
height-int n at = search (rules, the_lemmas)

pub height-sym : (name : NameId) (at : Span) → height (node.Sym name at) ≡ 1
unfolding height
height-sym name at = search (rules, the_lemmas)

pub height-str : (pieces : List Piece) (at : Span) → height (node.Str pieces at) ≡ suc (highest (map piece_height pieces))
unfolding height piece_height
height-str pieces at = search (rules, the_lemmas)

pub height-array : (items : List Node) (at : Span) → height (node.Array items at) ≡ suc (highest (map height items))
unfolding height
height-array items at = search (rules, the_lemmas)

pub height-hash : (pairs : List (Node × Node)) (at : Span) → height (node.Hash pairs at) ≡ suc (highest_pair (map pair_heights pairs))
unfolding height
height-hash pairs at = search (rules, the_lemmas)

pub height-local : (name : NameId) (at : Span) → height (node.Local name at) ≡ 1
unfolding height
height-local name at = search (rules, the_lemmas)

pub height-field : (name : NameId) (at : Span) → height (node.Field name at) ≡ 1
unfolding height
height-field name at = search (rules, the_lemmas)

pub height-global : (name : NameId) (at : Span) → height (node.Global name at) ≡ 1
unfolding height
height-global name at = search (rules, the_lemmas)

pub height-set_local : (name : NameId) (value : Node) (at : Span) → height (node.SetLocal name value at) ≡ suc (height value)
unfolding height
height-set_local name value at = search (rules, the_lemmas)

pub height-set_field : (name : NameId) (value : Node) (at : Span) → height (node.SetField name value at) ≡ suc (height value)
unfolding height
height-set_field name value at = search (rules, the_lemmas)

pub height-set_global : (name : NameId) (value : Node) (at : Span) → height (node.SetGlobal name value at) ≡ suc (height value)
unfolding height
height-set_global name value at = search (rules, the_lemmas)

pub height-store : (receiver : Node) (name : NameId) (args : List Node) (at : Span) → height (node.Store receiver name args at) ≡ suc (max (height receiver) (highest (map height args)))
unfolding height
height-store receiver name args at = search (rules, the_lemmas)

pub height-op_assign : (written : Target) (op : AssignOp) (value : Node) (at : Span) → height (node.OpAssign written op value at) ≡ suc (max (target_height written) (height value))
unfolding height target_height
height-op_assign written op value at = search (rules, the_lemmas)

pub height-call : (receiver : Option Node) (name : NameId) (args : List Node) (block : Option Block) (at : Span) → height (node.Call receiver name args block at) ≡ suc (max (or_none (option_map height receiver)) (max (highest (map height args)) (or_none (option_map block_height block))))
unfolding height block_height
height-call receiver name args block at = search (rules, the_lemmas)

pub height-new : (class : NameId) (args : List Node) (at : Span) → height (node.New class args at) ≡ suc (highest (map height args))
unfolding height
height-new class args at = search (rules, the_lemmas)

pub height-thread_new : (args : List Node) (body : ℕ) (at : Span) → height (node.ThreadNew args body at) ≡ suc (highest (map height args))
unfolding height
height-thread_new args body at = search (rules, the_lemmas)

pub height-and : (left : Node) (right : Node) (at : Span) → height (node.And left right at) ≡ suc (max (height left) (height right))
unfolding height
height-and left right at = search (rules, the_lemmas)

pub height-or : (left : Node) (right : Node) (at : Span) → height (node.Or left right at) ≡ suc (max (height left) (height right))
unfolding height
height-or left right at = search (rules, the_lemmas)

pub height-not : (value : Node) (at : Span) → height (node.Not value at) ≡ suc (height value)
unfolding height
height-not value at = search (rules, the_lemmas)

pub height-if : (condition : Node) (first : List Node) (second : List Node) (at : Span) → height (node.If condition first second at) ≡ suc (max (height condition) (max (highest (map height first)) (highest (map height second))))
unfolding height
height-if condition first second at = search (rules, the_lemmas)

pub height-while : (condition : Node) (body : List Node) (at : Span) → height (node.While condition body at) ≡ suc (max (height condition) (highest (map height body)))
unfolding height
height-while condition body at = search (rules, the_lemmas)

pub height-return : (value : Option Node) (at : Span) → height (node.Return value at) ≡ suc (or_none (option_map height value))
unfolding height
height-return value at = search (rules, the_lemmas)

pub height-break : (at : Span) → height (node.Break at) ≡ 1
unfolding height
height-break at = search (rules, the_lemmas)

pub height-next : (at : Span) → height (node.Next at) ≡ 1
unfolding height
height-next at = search (rules, the_lemmas)

pub piece_height-text : (text : List ℕ) → piece_height (piece.Text text) ≡ 0
unfolding piece_height
piece_height-text text = search (rules, the_lemmas)

pub piece_height-code : (code : Node) → piece_height (piece.Code code) ≡ height code
unfolding height piece_height
piece_height-code code = search (rules, the_lemmas)

pub target_height-local : (name : NameId) → target_height (target.Local name) ≡ 0
unfolding target_height
target_height-local name = search (rules, the_lemmas)

pub target_height-field : (name : NameId) → target_height (target.Field name) ≡ 0
unfolding target_height
target_height-field name = search (rules, the_lemmas)

pub target_height-global : (name : NameId) → target_height (target.Global name) ≡ 0
unfolding target_height
target_height-global name = search (rules, the_lemmas)

pub target_height-index : (receiver : Node) (index : Node) → target_height (target.Index receiver index) ≡ max (height receiver) (height index)
unfolding height target_height
target_height-index receiver index = search (rules, the_lemmas)

pub target_height-attribute : (receiver : Node) (name : NameId) → target_height (target.Attribute receiver name) ≡ height receiver
unfolding height target_height
target_height-attribute receiver name = search (rules, the_lemmas)

pub block_height-body : (block : Block) → block_height block ≡ highest (map height (out-Block block).body)
unfolding height block_height
block_height-body block = search (rules, the_lemmas)

pub ruleset heights = (height-nil, height-false, height-true, height-self, height-int, height-sym, height-str, height-array, height-hash, height-local, height-field, height-global, height-set_local, height-set_field, height-set_global, height-store, height-op_assign, height-call, height-new, height-thread_new, height-and, height-or, height-not, height-if, height-while, height-return, height-break, height-next, piece_height-text, piece_height-code, target_height-local, target_height-field, target_height-global, target_height-index, target_height-attribute, block_height-body)
