use Rattle.std.proofs.Common.{[], map, take, sym, subst}
use Rattle.std.proofs.lemmas.List.{map_more, take_all}
use Rattle.rb_cursor.specs.Word.{word_by}
use Rattle.rb_builder.specs.Builder.{walk_of}
use Rattle.rb_builder.specs.Block.{AreParams}
use Rattle.rb_builder.proofs.Saying.{said_nothing}
use Rattle.rb_builder.proofs.Making.{the_same}
use Rattle.rb_builder.proofs.builder.Builder.params.Goals as goal

pub words-init : goal.words-init
words-init c =
    let w = walk_of c.args.self.now in
    record {
      params = the_same w c.new.result (λ n. []) (λ n. c.new.ensures);
      said = said_nothing w c.new-2.result c.new-2.ensures.words c.new-2.ensures.threads c.new-2.ensures.bodies;
    }

pub words-preserved : goal.words-preserved
words-preserved c =
    let words = c.args.words.now in
    let i = c.words.word-index in
    subst (λ ws. AreParams (walk_of c.args.self.now) c.push_param.new.params ws) (sym (map_more word_by words i _ c.words-test.true))
    (c.in_ok-push_param.ensures.ok (map word_by (take i words)) c.words.invariant)

pub returns-clause-ok : goal.returns-clause-ok
returns-clause-ok c =
    subst (λ ws. AreParams (walk_of c.args.self.now) c.words.params (map word_by ws)) (take_all c.words.word-index c.args.words.now c.words-test.false) c.words.invariant
