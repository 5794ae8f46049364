use Rattle.std.proofs.Common.{[], ◌∷◌, refl}
use Rattle.rb_tree.specs.declared.node.Node.TheVariants as node
use Rattle.rb_grammar.specs.Tree as tree
use Rattle.rb_cursor.specs.Word.{word_by}
use Rattle.rb_builder.specs.Builder.{walk_of}
use Rattle.rb_builder.proofs.Scripts.{made_of, made_same}
use Rattle.rb_builder.proofs.builder.Builder.reader.Goals as goal

pub returns-clause-ok : goal.returns-clause-ok
returns-clause-ok c =
    let word = word_by c.args.word in
    made_same (walk_of c.args.self.now) _ _ (λ n. tree.method_by n (tree.reader_of word)) (rw (c.in_ok-push.ensures.ok, c.new-body.ensures, c.new.ensures) refl)
    (made_of (walk_of c.args.self.now) c.in_ok-name.name c.in_ok-field.field (λ n. n.name word.text) (λ n. n.name (tree.field_of word.text))
    (λ x y. record { name = x; params = []; body = node.Field y word.at ∷ []; at = word.at }) c.in_ok-name.ensures.ok c.in_ok-field.ensures.ok)
