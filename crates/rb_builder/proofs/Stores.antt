-- Assignments that call a method that writes.
use Rattle.std.proofs.Common.{[], ◌∷◌, ◌++◌, Result, subst, append-nil}
use Rattle.rb_tree.specs.declared.span.Span.{Span}
use Rattle.rb_tree.specs.declared.node.Node.TheVariants as node
use Rattle.rb_grammar.specs.Tree.{Tree, Word}
use Rattle.rb_grammar.specs.Tree as tree
use Rattle.rb_cursor.specs.declared.fault.ParseFault.{ParseFault}
use Rattle.rb_builder.specs.Walk.{Walk}
use Rattle.rb_builder.specs.Grown.{Builds}
use Rattle.rb_builder.specs.Stored.{stored}
use Rattle.rb_builder.specs.declared.grown.Grown as grown

pub index_stored : (w : Walk) (r i a : Tree) (bracket at : Span) (made : Result grown.Grown ParseFault)
    → Builds w (stored r (tree.given tree.store_name bracket) (i ∷ a ∷ []) at) made → Builds w (tree.assigned (tree.to_index r i bracket) at a) made
index_stored w r i a bracket at made h =
    subst (λ names. Builds w (tree.branch at (r.names ++ tree.given tree.store_name bracket ∷ (i.names ++ names)) (r ∷ i ∷ a ∷ []) (λ n. node.Store (r.node n) (n.name tree.store_name) (i.node n ∷ a.node n ∷ []) at)) made)
    (append-nil a.names) h

pub attribute_stored : (w : Walk) (r a : Tree) (word : Word) (at : Span) (made : Result grown.Grown ParseFault)
    → Builds w (stored r (tree.given (tree.setter_of word.text) word.at) (a ∷ []) at) made → Builds w (tree.assigned (tree.to_attribute r word) at a) made
attribute_stored w r a word at made h =
    subst (λ names. Builds w (tree.branch at (r.names ++ tree.given (tree.setter_of word.text) word.at ∷ names) (r ∷ a ∷ []) (λ n. node.Store (r.node n) (n.name (tree.setter_of word.text)) (a.node n ∷ []) at)) made)
    (append-nil a.names) h
