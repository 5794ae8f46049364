use Rattle.std.proofs.Common.{◌∷◌, [], suc, refl, ap}
use Rattle.rb_grammar.specs.Tree as tree
use Rattle.rb_tree.specs.declared.node.Node.TheVariants as node
use Rattle.rb_cursor.specs.Word.{word_by}
use Rattle.rb_builder.specs.Builder.{walk_of}
use Rattle.rb_builder.proofs.Saying.{said-joined}
use Rattle.rb_builder.proofs.Scripts.{made_of}
use Rattle.rb_builder.proofs.builder.Builder.object.Goals as goal

pub returns : goal.returns
returns c = λ trees r.
    let w = walk_of c.args.self.now in
    let class = word_by c.args.class in
    c.branch-self.ensures w (tree.new class c.args.at trees) (record {
      place = refl;
      height = ap suc r.height;
      made = made_of w _ _ (λ n. n.name class.text) (λ n. tree.nodes n trees) (λ x y. node.New x y c.args.at) c.name-class.ensures r.nodes;
      says = said-joined w _ _ _ (class ∷ []) (tree.names_of trees) [] (tree.threads_of trees) (c.in_ok-said.ensures.ok class refl) r.said c.in_ok-join.ensures.ok;
    })
