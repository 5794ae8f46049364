use Rattle.rb_walk.proofs.ready.ready_answer_by.Goals as goal

pub returns-in-Equal : goal.returns-in-Equal
returns-in-Equal c = rw c.in-Equal.is c.sameness_of.ensures

pub returns-in-IsNil : goal.returns-in-IsNil
returns-in-IsNil c = rw c.in-IsNil.is c.nilness_of.ensures

pub returns-in-Length : goal.returns-in-Length
returns-in-Length c = rw c.in-Length.is c.length_of.ensures
