use Rattle.std.proofs.Common.{refl, suc, ap}
use Rattle.rb_grammar.specs.Tree as tree
use Rattle.rb_tree.specs.declared.node.Node.TheVariants as node
use Rattle.rb_builder.specs.Builder.{walk_of}
use Rattle.rb_builder.proofs.Saying.{said-joined, said_same}
use Rattle.rb_builder.proofs.Targeted.{high_behind, threads_behind}
use Rattle.rb_builder.proofs.Scripts.{made_of}
use Rattle.rb_builder.proofs.builder.Builder.operated.Goals as goal

pub returns : goal.returns
returns c = λ x a i r.
    let w = walk_of c.args.self.now in
    let t = c.in_ok-height.ensures.ok x i in
    c.branch-self.ensures w (tree.operated x c.args.op c.args.at a) (record {
      place = refl;
      height = ap suc (rw (c.max-highest.ensures, t.height, r.height) (high_behind (tree.inside_target x) a));
      made = made_of w _ _ (λ n. tree.target_by n x) a.node (λ p q. node.OpAssign p c.args.op q c.args.at) t.target r.node;
      says = said_same w c.join.new.self refl (threads_behind (tree.inside_target x) a)
          (said-joined w _ _ _ (tree.target_names x) a.names (tree.threads_of (tree.inside_target x)) a.threads t.said r.said c.in_ok-join.ensures.ok);
    })
