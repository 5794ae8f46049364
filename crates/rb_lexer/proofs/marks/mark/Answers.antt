use Rattle.rb_lexer.proofs.Tables.{marks-more, marks-none, marks-found}
use Rattle.rb_lexer.proofs.marks.mark.Goals as goal

pub marks-preserved : goal.marks-preserved
marks-preserved c =
    marks-more c.args.bytes.now c.mark_text.result.now c.marks.mark-index c.starts_with.result c.marks-test.true c.marks.invariant c.mark_text.ensures c.starts_with.ensures.value c.if-starts_with.false

pub returns-then-starts_with-clause-found : goal.returns-then-starts_with-clause-found
returns-then-starts_with-clause-found c =
    marks-found c.args.bytes.now c.mark_text.result.now c.marks.mark-index c.starts_with.result c.marks-test.true c.marks.invariant c.mark_text.ensures c.starts_with.ensures.value c.if-starts_with.true

pub returns-clause-absent : goal.returns-clause-absent
returns-clause-absent c = λ _. marks-none c.args.bytes.now c.marks.mark-index c.marks-test.false c.marks.invariant
