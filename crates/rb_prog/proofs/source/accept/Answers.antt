use Rattle.std.proofs.Common.{ap, Err}
use Rattle.rb_prog.proofs.Judging.{judged, judged_coded, none_parsed, none_read}
use Rattle.rb_prog.proofs.source.accept.Goals as goal

pub returns-in-Err-clause-accepts : goal.returns-in-Err-clause-accepts
returns-in-Err-clause-accepts c = none_read c.args.source.now c.in-Err.fault c.unread.result c.in-Err.ensures.sound c.unread.ensures

pub returns-in-Ok-parse-clause-accepts : goal.returns-in-Ok-parse-clause-accepts
returns-in-Ok-parse-clause-accepts c =
    judged c.args.source.now c.in-Ok.tokens.items c.in-Ok-parse.program c.judged.result c.in-Ok.ensures.sound (rw c.as_slice.ensures.value at c.in-Ok-parse.ensures.sound) c.judged.ensures

pub returns-clause-accepts : goal.returns-clause-accepts
returns-clause-accepts c =
    let refused = rw c.as_slice.ensures.value at c.in-Err-parse.ensures.refused in
    let nested = rw c.as_slice.ensures.value at c.in-Err-parse.ensures.nested in
    none_parsed c.args.source.now c.in-Ok.tokens.items c.in-Err-parse.fault c.unparsed.result c.in-Ok.ensures.sound
    (λ at e. refused at (ap Err e)) (λ at e. nested at (ap Err e)) c.unparsed.ensures

pub returns-in-Ok-parse-clause-coded : goal.returns-in-Ok-parse-clause-coded
returns-in-Ok-parse-clause-coded c =
    let lexed = c.in-Ok.ensures in
    judged_coded c.args.source.now c.in-Ok.tokens.items c.in-Ok-parse.program c.judged.result lexed.ordered lexed.ends lexed.not_empty lexed.sound
    (rw c.as_slice.ensures.value at c.in-Ok-parse.ensures.sound) c.judged.ensures
