use Rattle.std.proofs.Common.{[], ◌∷◌, ◌∙◌, ap, get_or}
use Rattle.rb_shared.specs.View.{to_globals}
use Rattle.publish_barrier.specs.Known.{with_all_noted}
use Rattle.publish_barrier.proofs.Telling.{one_each, same_get, told_all, told_next}
use Rattle.publish_barrier.proofs.known.Known.with.Goals as goal

pub refs-preserved : goal.refs-preserved
refs-preserved c =
    told_next (λ r. r ∷ []) c.args.refs.now c.refs.at (get_or c.args.refs.now c.refs.at _) (to_globals ∷ []) c.refs.known.refs c.note_one.new.known.refs
    c.refs-test.true (same_get c.args.refs.now c.refs.at _ _ c.refs-test.true) c.refs.invariant c.in_ok-note_one.ensures.all

pub returns : goal.returns
returns c =
    told_all (λ r. r ∷ []) c.args.refs.now c.refs.at (to_globals ∷ []) c.refs.known.refs c.refs-test.false c.refs.invariant
    ∙ ap (with_all_noted (to_globals ∷ [])) (one_each c.args.refs.now)
