use Rattle.std.proofs.Common.{ap, Err, refl}
use Rattle.rb_prog.proofs.Judging.{breaks}
use Rattle.rb_prog.proofs.source.judged.Goals as goal

pub returns-in-Err : goal.returns-in-Err
returns-in-Err c = breaks c.args.program c.in-Err.error c.broken.result (λ f e. c.in-Err.ensures.refuses f (ap Err e)) c.broken.ensures

pub returns-in-Ok : goal.returns-in-Ok
returns-in-Ok c = (refl, c.in-Ok.ensures.accepts)
