use Rattle.std.proofs.Common.{suc, refl, ap}
use Rattle.rb_grammar.specs.Tree as tree
use Rattle.rb_tree.specs.declared.node.Node.TheVariants as node
use Rattle.rb_builder.specs.Builder.{walk_of}
use Rattle.rb_builder.proofs.Saying.{said-joined}
use Rattle.rb_builder.proofs.Scripts.{made_of}
use Rattle.rb_builder.proofs.builder.Builder.repeated.Goals as goal

pub returns : goal.returns
returns c = λ a trees t r.
    let w = walk_of c.args.self.now in
    c.branch-self.ensures w (tree.loop c.args.at a trees) (record {
      place = refl;
      height = ap suc (rw (c.max-highest.ensures, t.height, r.height) refl);
      made = made_of w _ _ a.node (λ n. tree.nodes n trees) (λ x y. node.While x y c.args.at) t.node r.nodes;
      says = said-joined w _ _ _ a.names (tree.names_of trees) a.threads (tree.threads_of trees) t.said r.said c.in_ok-join.ensures.ok;
    })
