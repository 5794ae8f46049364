use Rattle.std.proofs.Common.{[], ◌∷◌, ◌++◌, refl, append_assoc}
use Rattle.rb_grammar.specs.Tree as tree
use Rattle.rb_cursor.specs.Word.{word_by}
use Rattle.rb_builder.specs.Builder.{walk_of}
use Rattle.rb_builder.proofs.Saying.{said_same}
use Rattle.rb_builder.proofs.Scripts.{made_behind}
use Rattle.rb_builder.proofs.builder.Builder.push_reader.Goals as goal

pub returns-clause-ok : goal.returns-clause-ok
returns-clause-ok c = λ m r.
    let w = walk_of c.args.self.now in
    let word = word_by c.args.word in
    let first : tree.Word = word in
    let second : tree.Word = tree.given (tree.field_of word.text) word.at in
    record {
      methods = made_behind w tree.method_by c.in_ok-method.method c.args.members.now.methods c.keep.new.items m.methods (tree.reader_of word) c.in_ok-keep.ensures.ok r.methods c.in_ok-method.ensures.ok;
      said = said_same w c.gather-2.new.said {threads = m.threads} (append_assoc m.names (first ∷ []) (second ∷ [])) refl
          (c.in_ok-gather-2.ensures.ok (m.names ++ first ∷ []) m.threads second refl (c.in_ok-gather.ensures.ok m.names m.threads first refl r.said));
    }
