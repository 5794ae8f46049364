use Rattle.std.proofs.Common.{◌≡◌, [], ◌∷◌, subst}
use Rattle.publish_barrier.specs.Known.{noted, with_noted}
use Rattle.publish_barrier.proofs.Noting.{all_noted}
use Rattle.publish_barrier.proofs.known.note_one.Goals as goal

pub returns-clause-some : goal.returns-clause-some
returns-clause-some c =
    all_noted c.args.known.now.refs c.note.new.self.refs (c.args.thing ∷ [])
    (subst (λ rs. c.note.new.self.refs ≡ with_noted rs c.args.thing (noted rs c.args.thing.id)) c.reserve.ensures.refs c.note.ensures.refs)
