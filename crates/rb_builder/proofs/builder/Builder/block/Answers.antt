use Rattle.std.proofs.Common.{[], map, refl}
use Rattle.rb_tree.specs.declared.node.Block.{roll-Block}
use Rattle.rb_grammar.specs.Tree as tree
use Rattle.rb_cursor.specs.Word.{word_by}
use Rattle.rb_builder.specs.Builder.{walk_of}
use Rattle.rb_builder.proofs.Saying.{said-joined}
use Rattle.rb_builder.proofs.Scripts.{made_of}
use Rattle.rb_builder.proofs.builder.Builder.block.Goals as goal

pub returns-clause-ok : goal.returns-clause-ok
returns-clause-ok c = λ trees r.
    let w = walk_of c.args.self.now in
    let words = map word_by c.args.params.now in
    record {
      at = refl;
      height = r.height;
      block = made_of w _ _ (λ n. tree.params_by n words) (λ n. tree.nodes n trees) (λ x y. roll-Block (record { params = x; body = y; at = c.args.at })) c.in_ok-params.ensures.ok.params r.nodes;
      said = said-joined w _ _ _ words (tree.names_of trees) [] (tree.threads_of trees) c.in_ok-params.ensures.ok.said r.said c.in_ok-join.ensures.ok;
    }
