use Rattle.std.proofs.Common.{[], ◌∷◌, refl}
use Rattle.std.specs.Prelude.{codes}
use Rattle.rb_tree.specs.declared.node.Node.TheVariants as node
use Rattle.rb_grammar.specs.Tree as tree
use Rattle.rb_cursor.specs.Word.{word_by}
use Rattle.rb_builder.specs.Builder.{walk_of}
use Rattle.rb_builder.proofs.Scripts.{made_of_three, made_same}
use Rattle.rb_builder.proofs.builder.Builder.writer.Goals as goal

pub returns-clause-ok : goal.returns-clause-ok
returns-clause-ok c =
    let word = word_by c.args.word in
    made_same (walk_of c.args.self.now) _ _ (λ n. tree.method_by n (tree.writer_of word)) (rw (c.in_ok-push.ensures.ok, c.in_ok-push-2.ensures.ok, c.in_ok-read.ensures, c.new-params.ensures, c.new-body.ensures) refl)
    (made_of_three (walk_of c.args.self.now) c.in_ok-name.name c.in_ok-field.field c.in_ok-value.value (λ n. n.name (tree.setter_of word.text)) (λ n. n.name (tree.field_of word.text)) (λ n. n.name (codes "v"))
    (λ x y z. record { name = x; params = record { name = z; at = word.at } ∷ []; body = node.SetField y (node.Local z word.at) word.at ∷ []; at = word.at }) c.in_ok-name.ensures.ok c.in_ok-field.ensures.ok c.in_ok-value.ensures.ok)
