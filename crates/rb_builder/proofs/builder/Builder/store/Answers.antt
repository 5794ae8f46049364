use Rattle.std.proofs.Common.{◌++◌, ◌∷◌, [], suc, refl, ap, append_assoc}
use Rattle.rb_grammar.specs.Tree as tree
use Rattle.rb_tree.specs.declared.node.Node.TheVariants as node
use Rattle.rb_builder.specs.Builder.{walk_of}
use Rattle.rb_builder.specs.Stored.{stored}
use Rattle.rb_builder.proofs.Saying.{said-joined, said_same}
use Rattle.rb_builder.proofs.Scripts.{made_of_three}
use Rattle.rb_builder.proofs.builder.Builder.store.Goals as goal

pub returns : goal.returns
returns c = λ a word trees text t r.
    let w = walk_of c.args.self.now in
    c.branch-self.ensures w (stored a word trees c.args.at) (record {
      place = refl;
      height = ap suc (rw (c.max-highest.ensures, t.height, r.height) refl);
      made = made_of_three w _ _ _ a.node (λ n. n.name word.text) (λ n. tree.nodes n trees) (λ x y z. node.Store x y z c.args.at) t.node
          (rw (text) c.in_ok-number.ensures.ok) r.nodes;
      says = said_same w c.join.new.self (append_assoc a.names (word ∷ []) (tree.names_of trees)) refl
          (said-joined w _ _ _ (a.names ++ word ∷ []) (tree.names_of trees) a.threads (tree.threads_of trees) (c.in_ok-gather.ensures.ok a.names a.threads word text t.said) r.said c.in_ok-join.ensures.ok);
    })
