use Rattle.rb_prog.proofs.remarks.tell_fault.Goals as goal

pub returns-clause-told : goal.returns-clause-told
returns-clause-told g c =
    rw (c.name.ensures, c.format-line.ensures.text, c.format-column.ensures.text, c.position-line.ensures.line, c.position-line.ensures.column) at c.tell_pieces.ensures.told
