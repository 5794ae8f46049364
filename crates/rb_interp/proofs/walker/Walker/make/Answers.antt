use Rattle.rb_walk.proofs.Collections.{made_at}
use Rattle.rb_interp.proofs.walker.Walker.make.Goals as goal

pub returns-in-Ok-clause-came : goal.returns-in-Ok-clause-came
returns-in-Ok-clause-came g c = λ depth S start k sc p a.
    let m = c.in-Ok.ensures in
    rw (c.give.ensures.gives, c.give.ensures.stays.3, m.log) (made_at S _ start _ _ _ c.in-Ok.thing c.args.make k sc depth _ m.id m.sort m.private a)
