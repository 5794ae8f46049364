use Rattle.std.proofs.Common.{suc, refl, sym, ap, ◌∙◌, append-nil}
use Rattle.rb_grammar.specs.Tree as tree
use Rattle.rb_tree.specs.declared.node.Node.TheVariants as node
use Rattle.rb_builder.specs.Builder.{walk_of}
use Rattle.rb_builder.proofs.Saying.{said_same}
use Rattle.rb_builder.proofs.Making.{one_high}
use Rattle.rb_builder.proofs.Scripts.{made_with}
use Rattle.rb_builder.proofs.builder.Builder.negated.Goals as goal

pub returns : goal.returns
returns c = λ a t.
    let w = walk_of c.args.self.now in
    c.branch-self.ensures w (tree.negated c.args.at a) (record {
      place = refl;
      height = ap suc (t.height ∙ one_high a.height);
      made = made_with w _ a.node (λ x. node.Not x c.args.at) t.node;
      says = said_same w _ refl (sym (append-nil a.threads)) t.said;
    })
