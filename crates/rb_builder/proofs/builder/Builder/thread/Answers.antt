use Rattle.std.proofs.Common.{suc, refl, sym, ap, ◌∙◌, subst}
use Rattle.rb_grammar.specs.Tree as tree
use Rattle.rb_tree.specs.declared.node.Node.TheVariants as node
use Rattle.rb_builder.specs.Builder.{walk_of}
use Rattle.rb_builder.specs.Grown.{Made}
use Rattle.rb_builder.proofs.Blocks.{thread_of, thread_says}
use Rattle.rb_builder.proofs.Scripts.{made_of}
use Rattle.rb_builder.proofs.builder.Builder.thread.Goals as goal

pub returns : goal.returns
returns c = λ trees b r s.
    let w = walk_of c.args.self.now in
    c.branch-self.ensures w (tree.thread_new c.args.at trees b) (record {
      place = refl;
      height = ap suc r.height;
      made = made_of w _ _ (λ n. tree.nodes n trees) (λ n. n.body b.at) (λ x y. node.ThreadNew x y c.args.at) r.nodes
          (subst (λ p. Made w c.body-body.result (λ n. n.body p)) s.at c.body-body.ensures);
      says = thread_says w trees b _ _ _ (c.in_ok-push_thread.ensures.ok (tree.names_of trees) (tree.threads_of trees) (thread_of b) (sym s.at) s.block r.said) s.said c.in_ok-join.ensures.ok;
    })
