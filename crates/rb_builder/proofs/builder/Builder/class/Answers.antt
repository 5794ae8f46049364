use Rattle.std.proofs.Common.{◌∷◌, [], refl}
use Rattle.std.specs.Prelude.{map}
use Rattle.rb_grammar.specs.Tree as tree
use Rattle.rb_cursor.specs.Word.{word_by}
use Rattle.rb_builder.specs.Builder.{walk_of}
use Rattle.rb_builder.proofs.Saying.{said-joined}
use Rattle.rb_builder.proofs.Scripts.{made_of}
use Rattle.rb_builder.proofs.builder.Builder.class.Goals as goal

pub returns-clause-ok : goal.returns-clause-ok
returns-clause-ok c = λ m r.
    let w = walk_of c.args.self.now in
    let word = word_by c.args.name in
    record {
      class = made_of w _ _ (λ n. n.name word.text) (λ n. map (tree.method_by n) m.methods) (λ x y. record { name = x; methods = y; at = word.at }) c.in_ok-number.ensures.ok r.methods;
      said = said-joined w _ _ _ (word ∷ []) m.names [] m.threads (c.in_ok-said.ensures.ok word refl) r.said c.in_ok-join.ensures.ok;
    }
