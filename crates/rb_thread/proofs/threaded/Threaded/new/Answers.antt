use Rattle.std.proofs.Common.{◌∙◌}
use Rattle.rb_thread.proofs.Begun.{alive_fresh, noted_known}
use Rattle.rb_thread.proofs.threaded.Threaded.new.Goals as goal

pub returns-clause-live : goal.returns-clause-live
returns-clause-live g c =
    let v = g.K.Seat.view c.args.seat in
    let w = g.K.Seat.view c.poll.new.self in
    alive_fresh _ _ _ _ _ _ _ _ _ _ v w c.args.things c.args.number c.args.known.refs c.new.result.0 _ _ (c.poll.ensures.home ∙ c.requires.home) c.requires.numbered c.requires.things c.requires.fresh c.poll.ensures.view c.new.ensures
    (noted_known v w c.args.known.refs c.poll.ensures.view c.requires.known) c.requires.spawns
