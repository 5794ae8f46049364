use Rattle.rb_interp.proofs.walker.Walker.stored_any.Goals as goal

pub returns-clause-came : goal.returns-clause-came
returns-clause-came g c = rw c.as_slice.ensures at c.store_builtin.ensures.came
