use Rattle.std.proofs.Common.{suc, refl, ap, Some}
use Rattle.rb_grammar.specs.Tree as tree
use Rattle.rb_tree.specs.declared.node.Node.TheVariants as node
use Rattle.rb_cursor.specs.Word.{word_by}
use Rattle.rb_builder.specs.Builder.{walk_of}
use Rattle.rb_builder.proofs.Bodies.{bodies_high}
use Rattle.rb_builder.proofs.Scripts.{made_of_four, made_same}
use Rattle.rb_builder.proofs.builder.Builder.call_with_block.Goals as goal

pub returns : goal.returns
returns c = λ a trees b t r s.
    let w = walk_of c.args.self.now in
    let word = word_by c.args.word in
    c.branch-self.ensures w (tree.call_with_block a word trees b) (record {
      place = refl;
      height = ap suc (rw (c.max-highest.ensures, c.max-rest.ensures, t.height, r.height, s.height) (bodies_high a.height trees b.body));
      made = made_same w _ _ (tree.call_with_block a word trees b).node c.in_ok-node.ensures.ok
          (made_of_four w _ _ _ _ a.node (λ n. n.name word.text) (λ n. tree.nodes n trees) (λ n. tree.block_by n b) (λ x y z u. node.Call (Some x) y z (Some u) word.at) t.node c.name-name.ensures r.nodes s.block);
      says = c.in_ok-said.ensures.ok a trees b t.said r.said s.said;
    })
