use Rattle.std.proofs.Common.{◌∷◌, [], suc, refl, sym, ap, ◌∙◌, append-nil}
use Rattle.rb_grammar.specs.Tree as tree
use Rattle.rb_tree.specs.declared.node.Node.TheVariants as node
use Rattle.rb_cursor.specs.Word.{word_by}
use Rattle.rb_builder.specs.Builder.{walk_of}
use Rattle.rb_builder.proofs.Saying.{said-joined, said_same}
use Rattle.rb_builder.proofs.Making.{one_high}
use Rattle.rb_builder.proofs.Scripts.{made_of}
use Rattle.rb_builder.proofs.builder.Builder.set_field.Goals as goal

pub returns : goal.returns
returns c = λ a t.
    let w = walk_of c.args.self.now in
    let word = word_by c.args.word in
    c.branch-self.ensures w (tree.assigned (tree.to_field word) c.args.at a) (record {
      place = refl;
      height = ap suc (t.height ∙ one_high a.height);
      made = made_of w _ _ (λ n. n.name word.text) a.node (λ x y. node.SetField x y c.args.at) c.name-name.ensures t.node;
      says = said_same w c.join.new.self refl (sym (append-nil a.threads))
          (said-joined w _ _ _ (word ∷ []) a.names [] a.threads (c.in_ok-said.ensures.ok word refl) t.said c.in_ok-join.ensures.ok);
    })
