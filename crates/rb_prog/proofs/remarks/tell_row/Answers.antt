use Rattle.rb_prog.proofs.remarks.tell_row.Goals as goal

pub returns-in-None-clause-told : goal.returns-in-None-clause-told
returns-in-None-clause-told g c = rw c.in-None.is (rw c.format-number.ensures.text at c.tell_pieces.ensures.told)

pub returns-in-Some-clause-told : goal.returns-in-Some-clause-told
returns-in-Some-clause-told g c =
    let told = rw (c.format-number.ensures.text, c.format-line.ensures.text, c.format-column.ensures.text, c.position-line.ensures.line, c.position-line.ensures.column)
    at c.tell_pieces-in-Some.ensures.told in
    rw c.in-Some.is told
