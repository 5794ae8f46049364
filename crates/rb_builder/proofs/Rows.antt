-- Rows of trees.
use Rattle.std.proofs.Common.{◌≡◌, ℕ, List, [], ◌∷◌, ◌++◌, refl, sym, ap, ◌∙◌, arith, max, append_assoc, append-nil}
use Rattle.std.proofs.lemmas.List.{map-append}
use Rattle.rb_tree.specs.declared.node.Node.{Node}
use Rattle.rb_tree.specs.Height.{highest}
use Rattle.rb_grammar.specs.Tree.{Tree, heights, nodes, names_of, threads_of}
use Rattle.rb_builder.specs.Walk.{Walk, gathering, numbering}
use Rattle.rb_builder.specs.declared.grown.Grown as grown
use Rattle.rb_builder.specs.declared.grown.Row as row
use Rattle.rb_builder.specs.Said.{Joined}
use Rattle.rb_builder.specs.Grown.{Made, Keeps, IsTree, IsRow}
use Rattle.rb_builder.proofs.Saying.{said-joined}

-- the highest of two rows that stand one behind the other
pub highest-append : (a b : List ℕ) → highest (a ++ b) ≡ max (highest a) (highest b)
highest-append [] b = grind arith
highest-append (n ∷ a) b = let rest : highest (a ++ b) ≡ max (highest a) (highest b) = highest-append a b in grind (arith, rest)

pub names_of-append : (a b : List Tree) → names_of (a ++ b) ≡ names_of a ++ names_of b
names_of-append [] b = refl
names_of-append (t ∷ a) b = ap (λ x. t.names ++ x) (names_of-append a b) ∙ sym (append_assoc t.names (names_of a) (names_of b))

pub threads_of-append : (a b : List Tree) → threads_of (a ++ b) ≡ threads_of a ++ threads_of b
threads_of-append [] b = refl
threads_of-append (t ∷ a) b = ap (λ x. t.threads ++ x) (threads_of-append a b) ∙ sym (append_assoc t.threads (threads_of a) (threads_of b))

-- a node that is kept stands behind the rest
nodes_kept : (w : Walk) (node : Node) (old new : List Node) (trees : List Tree) (a : Tree) → Keeps w node old new → Made w old (λ n. nodes n trees) → Made w node a.node
    → Made w new (λ n. nodes n (trees ++ a ∷ []))
nodes_kept gathering node old new trees a k h m = tt
nodes_kept (numbering n) node old new trees a k h m =
    k ∙ ap (λ x. x ++ node ∷ []) h ∙ ap (λ x. nodes n trees ++ x ∷ []) m ∙ sym (map-append (λ t. t.node n) trees (a ∷ []))

-- a tree is added behind others
pub row_pushed : (w : Walk) (old new : row.Row) (g : grown.Grown) (trees : List Tree) (a : Tree)
    → new.height ≡ max old.height g.height → Keeps w g.node old.nodes new.nodes → Joined old.said g.said new.said
    → IsRow w old trees → IsTree w g a → IsRow w new (trees ++ a ∷ [])
row_pushed w old new g trees a height node said r t = record {
  height = rw (map-append (λ b. b.height) trees (a ∷ []), highest-append (heights trees) (a.height ∷ []), height, r.height, t.height) (grind arith);
  nodes = nodes_kept w g.node old.nodes new.nodes trees a node r.nodes t.node;
  said = rw (names_of-append trees (a ∷ []), threads_of-append trees (a ∷ []), append-nil a.names, append-nil a.threads)
      (said-joined w old.said g.said new.said (names_of trees) a.names (threads_of trees) a.threads r.said t.said said);
}
