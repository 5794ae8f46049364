use Rattle.std.proofs.Common.{suc, refl, ap}
use Rattle.rb_grammar.specs.Tree as tree
use Rattle.rb_tree.specs.declared.node.Node.TheVariants as node
use Rattle.rb_builder.specs.Builder.{walk_of}
use Rattle.rb_builder.proofs.Bodies.{bodies_high, bodies_say}
use Rattle.rb_builder.proofs.Scripts.{made_of_three}
use Rattle.rb_builder.proofs.builder.Builder.choice.Goals as goal

pub returns : goal.returns
returns c = λ a trees more t r s.
    let w = walk_of c.args.self.now in
    c.branch-self.ensures w (tree.choice c.args.at a trees more) (record {
      place = refl;
      height = ap suc (rw (c.max-highest.ensures, c.max-inside.ensures, t.height, r.height, s.height) (bodies_high a.height trees more));
      made = made_of_three w _ _ _ a.node (λ n. tree.nodes n trees) (λ n. tree.nodes n more) (λ x y z. node.If x y z c.args.at) t.node r.nodes s.nodes;
      says = bodies_say w a trees more _ _ _ _ _ t.said r.said s.said c.in_ok-join.ensures.ok c.in_ok-join-2.ensures.ok;
    })
