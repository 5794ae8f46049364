use Rattle.std.proofs.Common.{map, take, sym, ap, ◌∙◌, subst}
use Rattle.std.proofs.lemmas.List.{map_more, take_all}
use Rattle.rb_grammar.specs.Tree as tree
use Rattle.rb_cursor.specs.Word.{word_by}
use Rattle.rb_builder.specs.Builder.{walk_of}
use Rattle.rb_builder.specs.Script.{AreMembers}
use Rattle.rb_builder.proofs.Attributes.{attributes-append}
use Rattle.rb_builder.proofs.builder.Builder.push_attributes.Goals as goal

pub words-init : goal.words-init
words-init c = λ m r. r

pub words-preserved : goal.words-preserved
words-preserved c = λ m r.
    let words = c.args.words.now in
    let i = c.words.word-index in
    let so_far = map word_by (take i words) in
    subst (λ x. AreMembers (walk_of c.args.self.now) c.push_attribute.new.members x)
    (sym (ap (tree.with_attributes m c.args.kind.now) (map_more word_by words i _ c.words-test.true) ∙ attributes-append m c.args.kind.now so_far _))
    (c.in_ok-push_attribute.ensures.ok (tree.with_attributes m c.args.kind.now so_far) (c.words.invariant m r))

pub returns-clause-ok : goal.returns-clause-ok
returns-clause-ok c = λ m r.
    subst (λ xs. AreMembers (walk_of c.args.self.now) c.words.members (tree.with_attributes m c.args.kind.now (map word_by xs))) (take_all c.words.word-index c.args.words.now c.words-test.false) (c.words.invariant m r)
