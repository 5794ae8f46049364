use Rattle.rb_interp.proofs.walker.Walker.list.Goals as goal

pub returns-in-Ok-clause-came : goal.returns-in-Ok-clause-came
returns-in-Ok-clause-came g c = λ depth S start k sc p a.
    c.make.ensures.came depth S start k sc p (rw c.in-Ok.ensures a)
