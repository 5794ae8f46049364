use Rattle.std.proofs.Common.{◌≡◌, refl, ap, rules, to_z, of_z, w64}
use Rattle.rb_grammar.specs.Tree as tree
use Rattle.rb_tree.specs.declared.node.Node.TheVariants as node
use Rattle.rb_builder.specs.Builder.{walk_of}
use Rattle.rb_builder.proofs.Saying.{said_nothing}
use Rattle.rb_builder.proofs.Making.{the_same}
use Rattle.rb_builder.proofs.builder.Builder.integer.Goals as goal

pub returns : goal.returns
returns c =
    let w = walk_of c.args.self.now in
    let value : to_z w64 (of_z w64 c.args.value) ≡ c.args.value = search rules in
    c.branch-self.ensures w (tree.integer c.args.value c.args.at) (record {
      place = refl;
      height = refl;
      made = the_same w _ (tree.integer c.args.value c.args.at).node (λ n. ap (λ x. node.Int x c.args.at) value);
      says = said_nothing w c.new.result c.new.ensures.words c.new.ensures.threads c.new.ensures.bodies;
    })
