use Rattle.std.proofs.Common.{suc, refl, ap}
use Rattle.rb_grammar.specs.Tree as tree
use Rattle.rb_tree.specs.declared.node.Node.TheVariants as node
use Rattle.rb_builder.specs.Builder.{walk_of}
use Rattle.rb_builder.proofs.Scripts.{made_with}
use Rattle.rb_builder.proofs.builder.Builder.array.Goals as goal

pub returns : goal.returns
returns c = λ trees r.
    let w = walk_of c.args.self.now in
    c.branch-self.ensures w (tree.array c.args.at trees) (record {
      place = refl;
      height = ap suc r.height;
      made = made_with w _ (λ n. tree.nodes n trees) (λ x. node.Array x c.args.at) r.nodes;
      says = r.said;
    })
