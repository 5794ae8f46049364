use Rattle.rb_model.specs.Moving.{refs_in, refs_in_all}
use Rattle.publish_barrier.proofs.Noting.{all_noted}
use Rattle.publish_barrier.proofs.Telling.{told_all, told_next, told_some}
use Rattle.publish_barrier.proofs.known.note_values.Goals as goal

pub values-preserved : goal.values-preserved
values-preserved c =
    told_next refs_in c.args.values.now c.values.at c.index-values-at.result c.args.known.now.refs c.values.known.refs c.note_value.new.known.refs
    c.values-test.true c.index-values-at.is c.values.invariant c.in_ok-note_value.ensures.all

pub returns-in_err-note_value-clause-some : goal.returns-in_err-note_value-clause-some
returns-in_err-note_value-clause-some c =
    told_some refs_in c.args.values.now c.values.at c.index-values-at.result c.args.known.now.refs c.values.known.refs c.note_value.new.known.refs
    c.values-test.true c.index-values-at.is c.values.invariant c.note_value.ensures.some

pub returns-clause-some : goal.returns-clause-some
returns-clause-some c =
    all_noted c.args.known.now.refs c.values.known.refs (refs_in_all c.args.values.now)
    (told_all refs_in c.args.values.now c.values.at c.args.known.now.refs c.values.known.refs c.values-test.false c.values.invariant)
