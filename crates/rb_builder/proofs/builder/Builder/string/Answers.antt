use Rattle.std.proofs.Common.{suc, refl, ap}
use Rattle.std.specs.Prelude.{map}
use Rattle.rb_grammar.specs.Tree as tree
use Rattle.rb_tree.specs.declared.node.Node.TheVariants as node
use Rattle.rb_builder.specs.Builder.{walk_of}
use Rattle.rb_builder.proofs.Scripts.{made_with}
use Rattle.rb_builder.proofs.builder.Builder.string.Goals as goal

pub returns : goal.returns
returns c = λ trees r.
    let w = walk_of c.args.self.now in
    c.branch-self.ensures w (tree.string c.args.at trees) (record {
      place = refl;
      height = ap suc r.height;
      made = made_with w _ (λ n. map (tree.piece_by n) trees) (λ x. node.Str x c.args.at) r.pieces;
      says = r.said;
    })
