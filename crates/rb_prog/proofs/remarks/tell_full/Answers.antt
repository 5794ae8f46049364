use Rattle.rb_prog.proofs.remarks.tell_full.Goals as goal

pub returns-clause-told : goal.returns-clause-told
returns-clause-told g c = rw (c.format-used.ensures.text, c.format-asked.ensures.text) at c.tell_pieces.ensures.told
