use Rattle.rb_prog.proofs.remarks.tell_refusal.Goals as goal

pub returns-clause-told : goal.returns-clause-told
returns-clause-told g c = rw (c.row_of.ensures.number, c.row_of.ensures.name, c.row_of.ensures.place) at c.tell_row.ensures.told
