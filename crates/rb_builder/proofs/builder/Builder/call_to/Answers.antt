use Rattle.std.proofs.Common.{◌++◌, ◌∷◌, [], Some, suc, refl, ap, append_assoc, None}
use Rattle.rb_grammar.specs.Tree as tree
use Rattle.rb_tree.specs.declared.node.Node.TheVariants as node
use Rattle.rb_cursor.specs.Word.{word_by}
use Rattle.rb_builder.specs.Builder.{walk_of}
use Rattle.rb_builder.proofs.Saying.{said-joined, said_same}
use Rattle.rb_builder.proofs.Scripts.{made_of_three}
use Rattle.rb_builder.proofs.builder.Builder.call_to.Goals as goal

pub returns : goal.returns
returns c = λ a trees t r.
    let w = walk_of c.args.self.now in
    let word = word_by c.args.word in
    c.branch-self.ensures w (tree.call (Some a) word trees) (record {
      place = refl;
      height = ap suc (rw (c.max-highest.ensures, t.height, r.height) refl);
      made = made_of_three w _ _ _ a.node (λ n. n.name word.text) (λ n. tree.nodes n trees) (λ x y z. node.Call (Some x) y z None word.at) t.node c.name-name.ensures r.nodes;
      says = said_same w c.join.new.self (append_assoc a.names (word ∷ []) (tree.names_of trees)) refl
          (said-joined w _ _ _ (a.names ++ word ∷ []) (tree.names_of trees) a.threads (tree.threads_of trees) (c.in_ok-gather.ensures.ok a.names a.threads word refl t.said) r.said c.in_ok-join.ensures.ok);
    })
