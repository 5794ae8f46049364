use Rattle.std.proofs.Common.{refl, sym, ◌∙◌, append-nil}
use Rattle.rb_tree.specs.declared.node.Target.TheVariants as node
use Rattle.rb_cursor.specs.Word.{word_by}
use Rattle.rb_builder.specs.Builder.{walk_of}
use Rattle.rb_builder.proofs.Saying.{said_same}
use Rattle.rb_builder.proofs.Making.{one_high}
use Rattle.rb_builder.proofs.Scripts.{made_of}
use Rattle.rb_builder.proofs.builder.Builder.attribute_target.Goals as goal

pub returns-clause-ok : goal.returns-clause-ok
returns-clause-ok c = λ r t.
    let w = walk_of c.args.self.now in
    let word = word_by c.args.word in
    record {
      height = t.height ∙ one_high r.height;
      target = made_of w _ _ r.node (λ n. n.name word.text) (λ x y. node.Attribute x y) t.node c.in_ok-name.ensures.ok;
      said = said_same w c.gather.new.said refl (sym (append-nil r.threads)) (c.in_ok-gather.ensures.ok r.names r.threads word refl t.said);
    }
