use Rattle.std.proofs.Common.{sym, ap, ◌∙◌}
use Rattle.rb_shared.specs.View.{joined_view, polled_view}
use Rattle.rb_thread.proofs.Lines.{is_none_by}
use Rattle.rb_thread.proofs.Keeping.{promised_at, alive_joined, alive_childless}
use Rattle.rb_thread.proofs.threaded.Threaded.settle.Goals as goal

pub join-requires-clause-other : goal.join-requires-clause-other
join-requires-clause-other g c =
    let l = c.requires.live in
    let x = c.take.ensures in
    ((promised_at c.args.place x.0 c.in-Some.child l x.1 (sym x.2 ∙ c.in-Some.is)).2 c.gather-other.result c.gather-other.ensures.kept).0 ∙ sym (c.poll.ensures.home ∙ (c.rest.ensures.home ∙ l.home_is))

pub join-requires-clause-ended : goal.join-requires-clause-ended
join-requires-clause-ended g c =
    let l = c.requires.live in
    let x = c.take.ensures in
    ((promised_at c.args.place x.0 c.in-Some.child l x.1 (sym x.2 ∙ c.in-Some.is)).2 c.gather-other.result c.gather-other.ensures.kept).1.ended

pub returns-in-Some-clause-live : goal.returns-in-Some-clause-live
returns-in-Some-clause-live g c =
    let x = c.take.ensures in
    let v = g.K.Seat.seen in
    alive_joined c.gather-other.result c.args.place x.0 c.in-Some.child c.requires.live (c.join.ensures.home ∙ (c.poll.ensures.home ∙ c.rest.ensures.home)) x.1 (sym x.2 ∙ c.in-Some.is) c.gather-other.ensures.kept
    (c.join.ensures.told ∙ ap (λ y. joined_view y (v c.gather-other.result)) (c.poll.ensures.view ∙ ap polled_view c.rest.ensures.view)) x.3

pub returns-in_default-clause-live : goal.returns-in_default-clause-live
returns-in_default-clause-live g c =
    let x = c.take.ensures in
    alive_childless c.args.place x.0 c.requires.live x.1 (sym x.2 ∙ is_none_by c.take.result (λ y e. c.in_default.not-Some y e)) x.3
