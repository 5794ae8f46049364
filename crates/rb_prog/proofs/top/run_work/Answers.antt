use Rattle.rb_prog.specs.Run as run
use Rattle.rb_prog.proofs.Adding.{adds_none}
use Rattle.rb_prog.proofs.Completing.{source_ends, source_not_usage}
use Rattle.rb_prog.proofs.top.run_work.Goals as goal

pub returns-in-Ok-clause-not_usage : goal.returns-in-Ok-clause-not_usage
returns-in-Ok-clause-not_usage g c = source_not_usage _ _ _ _ _ _ _ c.run_source.ensures.runs.1

pub returns-in-Ok-clause-complete : goal.returns-in-Ok-clause-complete
returns-in-Ok-clause-complete g c = λ program accepted never.
    let ran = rw (c.as_slice.ensures.value, c.in-Ok.ensures.lines) at c.run_source.ensures.runs in
    source_ends _ program _ _ _ _ _ _ _ accepted ran.1 c.run_source.ensures.cause never c.run_source.ensures.never_full

pub returns-in-Err-clause-works : goal.returns-in-Err-clause-works
returns-in-Err-clause-works g c = rw c.stopped.ensures.report (_, run.RunsSource.out_of_memory (adds_none (g.K.Sink.told c.args.out)), c.stopped.ensures.told)
