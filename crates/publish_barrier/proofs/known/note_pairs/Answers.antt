use Rattle.std.proofs.Common.{◌++◌}
use Rattle.rb_model.specs.Moving.{refs_in, refs_in_pairs}
use Rattle.publish_barrier.proofs.Noting.{all_noted}
use Rattle.publish_barrier.proofs.Telling.{told_all, told_next, told_some}
use Rattle.publish_barrier.proofs.known.note_pairs.Goals as goal

pub pairs-preserved : goal.pairs-preserved
pairs-preserved c =
    told_next (λ p. refs_in p.0 ++ refs_in p.1) c.args.pairs.now c.pairs.at c.index-pairs-at.result c.args.known.now.refs c.pairs.known.refs c.note_pair.new.known.refs
    c.pairs-test.true c.index-pairs-at.is c.pairs.invariant c.in_ok-note_pair.ensures.all

pub returns-in_err-note_pair-clause-some : goal.returns-in_err-note_pair-clause-some
returns-in_err-note_pair-clause-some c =
    told_some (λ p. refs_in p.0 ++ refs_in p.1) c.args.pairs.now c.pairs.at c.index-pairs-at.result c.args.known.now.refs c.pairs.known.refs c.note_pair.new.known.refs
    c.pairs-test.true c.index-pairs-at.is c.pairs.invariant c.note_pair.ensures.some

pub returns-clause-some : goal.returns-clause-some
returns-clause-some c =
    all_noted c.args.known.now.refs c.pairs.known.refs (refs_in_pairs c.args.pairs.now)
    (told_all (λ p. refs_in p.0 ++ refs_in p.1) c.args.pairs.now c.pairs.at c.args.known.now.refs c.pairs.known.refs c.pairs-test.false c.pairs.invariant)
