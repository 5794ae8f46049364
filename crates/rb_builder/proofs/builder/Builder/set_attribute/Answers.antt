use Rattle.std.proofs.Common.{◌∷◌, [], refl}
use Rattle.rb_grammar.specs.Tree as tree
use Rattle.rb_cursor.specs.Word.{word_by}
use Rattle.rb_builder.specs.Builder.{walk_of}
use Rattle.rb_builder.proofs.Stores.{attribute_stored}
use Rattle.rb_builder.proofs.builder.Builder.set_attribute.Goals as goal

pub returns : goal.returns
returns c = λ r a t u.
    let word = word_by c.args.word in
    attribute_stored (walk_of c.args.self.now) r a word c.args.at c.store.result
    (c.store.ensures r (tree.given (tree.setter_of word.text) word.at) (a ∷ []) refl t (c.in_ok-args.ensures.ok a u))
