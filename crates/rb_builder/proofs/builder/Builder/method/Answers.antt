use Rattle.std.proofs.Common.{[], ◌∷◌, map}
use Rattle.rb_grammar.specs.Tree as tree
use Rattle.rb_cursor.specs.Word.{word_by}
use Rattle.rb_builder.specs.Builder.{walk_of}
use Rattle.rb_builder.specs.Said.{text_given}
use Rattle.rb_builder.proofs.Saying.{said-joined}
use Rattle.rb_builder.proofs.Scripts.{made_of_three}
use Rattle.rb_builder.proofs.builder.Builder.method.Goals as goal

pub returns-clause-ok : goal.returns-clause-ok
returns-clause-ok c = λ word trees text at r.
    let w = walk_of c.args.self.now in
    let words = map word_by c.args.params.now in
    record {
      method = rw (text, at) (made_of_three w _ _ _ (λ n. n.name (text_given c.args.name)) (λ n. tree.params_by n words) (λ n. tree.nodes n trees)
          (λ x y z. record { name = x; params = y; body = z; at = c.args.at }) c.in_ok-number.ensures.ok c.in_ok-params.ensures.ok.params r.nodes);
      said = said-joined w _ _ _ (word ∷ words) (tree.names_of trees) [] (tree.threads_of trees)
          (said-joined w _ _ _ (word ∷ []) words [] [] (c.in_ok-said.ensures.ok word text) c.in_ok-params.ensures.ok.said c.in_ok-join.ensures.ok) r.said c.in_ok-join-2.ensures.ok;
    }
