use Rattle.rb_prog.proofs.remarks.tell_end.Goals as goal

pub returns-in-Raised-clause-told : goal.returns-in-Raised-clause-told
returns-in-Raised-clause-told g c = rw c.in-Raised.is c.tell_fault.ensures.told

pub returns-in-Steps-clause-told : goal.returns-in-Steps-clause-told
returns-in-Steps-clause-told g c = rw c.in-Steps.is c.tell_steps.ensures.told

pub returns-in-Full-clause-told : goal.returns-in-Full-clause-told
returns-in-Full-clause-told g c = rw c.in-Full.is c.tell_full.ensures.told

pub returns-in-Sink-clause-told : goal.returns-in-Sink-clause-told
returns-in-Sink-clause-told g c = rw c.in-Sink.is c.tell.ensures.told

pub returns-in-Memory-clause-told : goal.returns-in-Memory-clause-told
returns-in-Memory-clause-told g c = rw c.in-Memory.is c.tell-in-Memory.ensures.told
