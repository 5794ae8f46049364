-- An operator between two operands is a call of its name.
use Rattle.std.proofs.Common.{[], ◌∷◌, ◌++◌, Some, None, Result, subst, append-nil}
use Rattle.rb_tree.specs.declared.node.Node.TheVariants as node
use Rattle.rb_grammar.specs.Tree.{Tree, Word}
use Rattle.rb_grammar.specs.Tree as tree
use Rattle.rb_cursor.specs.declared.fault.ParseFault.{ParseFault}
use Rattle.rb_builder.specs.Walk.{Walk}
use Rattle.rb_builder.specs.Grown.{Builds}
use Rattle.rb_builder.specs.declared.grown.Grown as grown

pub operator_built : (w : Walk) (word : Word) (a b : Tree) (r : Result grown.Grown ParseFault)
    → Builds w (tree.call (Some a) word (b ∷ [])) r → Builds w (tree.binary word.text word.at a b) r
operator_built w word a b r h =
    subst (λ names. Builds w (tree.branch word.at (a.names ++ word ∷ names) (a ∷ b ∷ []) (λ n. node.Call (Some (a.node n)) (n.name word.text) (b.node n ∷ []) None word.at)) r)
    (append-nil b.names) h
