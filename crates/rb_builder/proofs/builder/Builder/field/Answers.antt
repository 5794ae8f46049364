use Rattle.std.proofs.Common.{refl}
use Rattle.rb_grammar.specs.Tree as tree
use Rattle.rb_tree.specs.declared.node.Node.TheVariants as node
use Rattle.rb_cursor.specs.Word.{word_by}
use Rattle.rb_builder.specs.Builder.{walk_of}
use Rattle.rb_builder.proofs.Scripts.{made_with}
use Rattle.rb_builder.proofs.builder.Builder.field.Goals as goal

pub returns : goal.returns
returns c =
    let w = walk_of c.args.self.now in
    let word = word_by c.args.word in
    c.branch-self.ensures w (tree.field word) (record {
      place = refl;
      height = refl;
      made = made_with w _ (λ n. n.name word.text) (λ x. node.Field x word.at) c.name-name.ensures;
      says = c.in_ok-said.ensures.ok word refl;
    })
