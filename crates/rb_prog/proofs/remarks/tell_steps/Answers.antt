use Rattle.rb_prog.proofs.remarks.tell_steps.Goals as goal

pub returns-clause-told : goal.returns-clause-told
returns-clause-told g c = rw c.format.ensures.text at c.tell_pieces.ensures.told
