use Rattle.std.proofs.Common.{suc, refl, ap, [], ◌∷◌}
use Rattle.rb_grammar.specs.Tree as tree
use Rattle.rb_tree.specs.declared.node.Node.TheVariants as node
use Rattle.rb_builder.specs.Builder.{walk_of}
use Rattle.rb_builder.proofs.Bodies.{behind_high, behind_says}
use Rattle.rb_builder.proofs.Scripts.{made_of}
use Rattle.rb_builder.proofs.builder.Builder.repeated_behind.Goals as goal

pub returns : goal.returns
returns c = λ a b t u.
    let w = walk_of c.args.self.now in
    let r = c.in_ok-height.ensures.ok a t in
    c.branch-self.ensures w (tree.loop_behind c.args.at a b) (record {
      place = refl;
      height = ap suc (rw (c.max-highest.ensures, r.height, u.height) (behind_high a.height b.height));
      made = made_of w _ _ b.node (λ n. tree.nodes n (a ∷ [])) (λ x y. node.While x y c.args.at) u.node r.nodes;
      says = behind_says w a b _ _ _ r.said u.said c.in_ok-join.ensures.ok;
    })
