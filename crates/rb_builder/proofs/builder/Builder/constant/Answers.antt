use Rattle.std.proofs.Common.{refl}
use Rattle.rb_grammar.specs.Tree as tree
use Rattle.rb_builder.specs.Builder.{walk_of}
use Rattle.rb_builder.specs.Constant.{constant_node}
use Rattle.rb_builder.proofs.Saying.{said_nothing}
use Rattle.rb_builder.proofs.Making.{the_same}
use Rattle.rb_builder.proofs.builder.Builder.constant.Goals as goal

pub returns : goal.returns
returns c =
    let w = walk_of c.args.self.now in
    c.branch-self.ensures w (tree.constant (constant_node c.args.constant) c.args.at) (record {
      place = refl;
      height = refl;
      made = the_same w _ (tree.constant (constant_node c.args.constant) c.args.at).node (λ n. c.constant_node.ensures);
      says = said_nothing w c.new.result c.new.ensures.words c.new.ensures.threads c.new.ensures.bodies;
    })
