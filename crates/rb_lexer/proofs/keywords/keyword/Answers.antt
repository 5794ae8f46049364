use Rattle.rb_lexer.proofs.Tables.{keywords-more, keywords-none}
use Rattle.rb_lexer.proofs.keywords.keyword.Goals as goal

pub words-preserved : goal.words-preserved
words-preserved c =
    keywords-more c.args.text.now c.keyword_text.result.now c.words.word-index c.eq.result c.words-test.true c.words.invariant c.keyword_text.ensures c.eq.ensures c.if-eq.false

pub returns-clause-absent : goal.returns-clause-absent
returns-clause-absent c = λ _. keywords-none c.args.text.now c.words.word-index c.words-test.false c.words.invariant
