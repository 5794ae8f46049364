-- One layer of a node.
use Rattle.std.proofs.Common.{◌≡◌, List, Option, rules}
use Rattle.std.specs.Prelude.{ℤ}
use Rattle.rb_tree.specs.declared.span.Span.{Span}
use Rattle.rb_tree.specs.declared.span.NameId.{NameId}
use Rattle.rb_tree.specs.declared.node.Node.{Node, out-Node, the_lemmas}
use Rattle.rb_tree.specs.declared.node.Node.TheVariants as node
use Rattle.rb_tree.specs.declared.node.Block.{Block}
use Rattle.rb_tree.specs.declared.node.Node.TheOpen as layer

pub out-int : (n : ℤ) (at : Span) → out-Node (node.Int n at) ≡ layer.Int n at
out-int n at = search (rules, the_lemmas)

pub out-local : (name : NameId) (at : Span) → out-Node (node.Local name at) ≡ layer.«Node::Local» name at
out-local name at = search (rules, the_lemmas)

pub out-set_local : (name : NameId) (value : Node) (at : Span) → out-Node (node.SetLocal name value at) ≡ layer.SetLocal name value at
out-set_local name value at = search (rules, the_lemmas)

pub out-call : (receiver : Option Node) (name : NameId) (args : List Node) (block : Option Block) (at : Span) → out-Node (node.Call receiver name args block at) ≡ layer.Call receiver name args block at
out-call receiver name args block at = search (rules, the_lemmas)
