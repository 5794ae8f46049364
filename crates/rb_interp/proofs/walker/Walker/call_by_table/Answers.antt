use Rattle.rb_walk.proofs.Calls.{left_answered}
use Rattle.rb_interp.proofs.walker.Walker.call_by_table.Goals as goal

pub returns-in-Ok-clause-came : goal.returns-in-Ok-clause-came
returns-in-Ok-clause-came g c = λ name e S start k sc p a.
    c.do_deed.ensures.came S start k sc p (rw (c.in-Ok.ensures name e) a)

pub returns-in-Err-clause-came : goal.returns-in-Err-clause-came
returns-in-Err-clause-came g c = λ name e S start k sc p a.
    rw (c.over.ensures.gives, c.over.ensures.stays.3, c.over.ensures.stays.2) (_, a, left_answered S _ c.args.at k sc _ _)
