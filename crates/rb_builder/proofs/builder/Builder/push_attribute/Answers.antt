use Rattle.std.proofs.Common.{◌++◌, ◌∷◌, [], refl, sym}
use Rattle.std.proofs.lemmas.Result.{on_ok_weaker}
use Rattle.rb_grammar.specs.Tree as tree
use Rattle.rb_cursor.specs.Word.{word_by}
use Rattle.rb_builder.specs.Builder.{walk_of}
use Rattle.rb_builder.specs.Attribute.{with_reader}
use Rattle.rb_builder.proofs.Attributes.{reader_added, writer_added, both_added}
use Rattle.rb_builder.proofs.builder.Builder.push_attribute.Goals as goal

pub returns-then-eq-clause-ok : goal.returns-then-eq-clause-ok
returns-then-eq-clause-ok c =
    let w = walk_of c.args.self.now in
    let word = word_by c.args.word in
    on_ok_weaker c.push_reader.result (λ f m r. reader_added w c.push_reader.new.members m c.args.kind.now word (sym c.if-eq.ensures) (f m r)) c.push_reader.ensures.ok

pub returns-then-eq-2-clause-ok : goal.returns-then-eq-2-clause-ok
returns-then-eq-2-clause-ok c =
    let w = walk_of c.args.self.now in
    let word = word_by c.args.word in
    let field : tree.Word = tree.given (tree.field_of word.text) word.at in
    on_ok_weaker c.push_writer.result
    (λ f m r. writer_added w c.push_writer.new.members m c.args.kind.now word (sym c.if-eq.ensures) (sym c.if-eq-2.ensures)
    (f (record { methods = m.methods; names = m.names ++ field ∷ []; threads = m.threads }) (record { methods = r.methods; said = c.in_ok-gather.ensures.ok m.names m.threads field refl r.said })))
    c.push_writer.ensures.ok

pub returns-clause-ok : goal.returns-clause-ok
returns-clause-ok c =
    let w = walk_of c.args.self.now in
    let word = word_by c.args.word in
    on_ok_weaker c.push_writer-2.result
    (λ f m r. both_added w c.push_writer-2.new.members m c.args.kind.now word (sym c.if-eq.ensures) (sym c.if-eq-2.ensures)
    (f (with_reader m word) (c.in_ok-push_reader.ensures.ok m r)))
    c.push_writer-2.ensures.ok
