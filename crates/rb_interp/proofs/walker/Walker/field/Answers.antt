use Rattle.rb_interp.proofs.walker.Walker.field.Goals as goal

pub returns-in-None-clause-came : goal.returns-in-None-clause-came
returns-in-None-clause-came g c = λ S start k sc d a.
    rw (c.raise.ensures.gives, c.raise.ensures.stays.3) (rw c.in-None.is at a)

pub returns-in-Some-clause-came : goal.returns-in-Some-clause-came
returns-in-Some-clause-came g c = λ S start k sc d a.
    c.ask.ensures.came S start k sc d (rw c.in-Some.is at a)
