-- Calls of methods that write.
use Rattle.std.specs.Prelude.{List, ◌∷◌, ◌++◌}
use Rattle.rb_tree.specs.declared.span.Span.{Span}
use Rattle.rb_tree.specs.declared.node.Node.TheVariants as node
use Rattle.rb_grammar.specs.Tree.{Tree, Word, branch, nodes, names_of}

-- a call of a name that writes, with the value behind the other arguments
abbrev pub stored : Tree → Word → List Tree → Span → Tree
stored r w args at = branch at (r.names ++ w ∷ names_of args) (r ∷ args) (λ n. node.Store (r.node n) (n.name w.text) (nodes n args) at)
