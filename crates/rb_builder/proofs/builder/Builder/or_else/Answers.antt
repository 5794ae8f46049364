use Rattle.std.proofs.Common.{◌++◌, suc, refl, sym, ap, append-nil}
use Rattle.rb_grammar.specs.Tree as tree
use Rattle.rb_tree.specs.declared.node.Node.TheVariants as node
use Rattle.rb_builder.specs.Builder.{walk_of}
use Rattle.rb_builder.proofs.Saying.{said-joined, said_same}
use Rattle.rb_builder.proofs.Making.{two_high}
use Rattle.rb_builder.proofs.Scripts.{made_of}
use Rattle.rb_builder.proofs.builder.Builder.or_else.Goals as goal

pub returns : goal.returns
returns c = λ a b t u.
    let w = walk_of c.args.self.now in
    c.branch-self.ensures w (tree.or_else c.args.at a b) (record {
      place = refl;
      height = ap suc (rw (c.max-highest.ensures, t.height, u.height) (two_high a.height b.height));
      made = made_of w _ _ a.node b.node (λ x y. node.Or x y c.args.at) t.node u.node;
      says = said_same w c.join.new.self refl (ap (λ x. a.threads ++ x) (sym (append-nil b.threads)))
          (said-joined w _ _ _ a.names b.names a.threads b.threads t.said u.said c.in_ok-join.ensures.ok);
    })
