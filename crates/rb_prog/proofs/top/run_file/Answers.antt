use Rattle.std.proofs.Common.{ap, Err}
use Rattle.rb_prog.specs.Run as run
use Rattle.rb_prog.specs.Run.{read, missing, failed}
use Rattle.rb_prog.proofs.Adding.{adds_none}
use Rattle.rb_prog.proofs.Completing.{complete}
use Rattle.rb_prog.proofs.Showing.{value_of}
use Rattle.rb_prog.proofs.top.run_file.Goals as goal

pub returns-in-Ok-clause-runs : goal.returns-in-Ok-clause-runs
returns-in-Ok-clause-runs g c =
    let ran = rw c.as_slice.ensures.value at c.run_source.ensures.runs in
    (ran.0, read c.in-Ok.ensures.read ran.1, ran.2)

pub returns-in-Ok-clause-value : goal.returns-in-Ok-clause-value
returns-in-Ok-clause-value g c =
    value_of _ _ _ c.args.words.steps _ _ _ c.in-Ok.ensures.read (rw c.as_slice.ensures.value at c.run_source.ensures.value)

pub returns-in-Err-Missing-clause-runs : goal.returns-in-Err-Missing-clause-runs
returns-in-Err-Missing-clause-runs g c =
    rw (c.no_value.ensures, c.stopped.ensures.report)
    (_, missing (c.in-Err-Missing.ensures.missing (ap Err c.in-Err-Missing.field-0-is)) (adds_none (g.K.Sink.told c.args.out)), c.stopped.ensures.told)

pub returns-in-Err-Failed-clause-runs : goal.returns-in-Err-Failed-clause-runs
returns-in-Err-Failed-clause-runs g c =
    rw (c.no_value-in-Err-Failed.ensures, c.stopped-in-Err-Failed.ensures.report)
    (_, failed (c.in-Err-Failed.ensures.failed (ap Err c.in-Err-Failed.field-0-is)) (adds_none (g.K.Sink.told c.args.out)), c.stopped-in-Err-Failed.ensures.told)

pub returns-in-Err-Memory-clause-runs : goal.returns-in-Err-Memory-clause-runs
returns-in-Err-Memory-clause-runs g c =
    rw (c.no_value-in-Err-Memory.ensures, c.stopped-in-Err-Memory.ensures.report)
    (_, run.Runs.out_of_memory (adds_none (g.K.Sink.told c.args.out)), c.stopped-in-Err-Memory.ensures.told)

pub returns-in-Ok-clause-complete : goal.returns-in-Ok-clause-complete
returns-in-Ok-clause-complete g c = λ bytes program h a calm never.
    complete _ bytes program _ _ _ _ _ _ _ _ (returns-in-Ok-clause-runs g c).1 h a calm c.run_source.ensures.cause never c.run_source.ensures.never_full

pub returns-in-Err-Missing-clause-complete : goal.returns-in-Err-Missing-clause-complete
returns-in-Err-Missing-clause-complete g c =
    let none = adds_none (g.K.Sink.told c.args.out) in
    rw (c.no_value.ensures, c.stopped.ensures.report) (λ bytes program h a calm never.
    complete _ bytes program _ _ c.args.words.steps _ _ _ _ _ (missing (c.in-Err-Missing.ensures.missing (ap Err c.in-Err-Missing.field-0-is)) none) h a calm (λ e. absurd (cc)) never (λ e. cc))

pub returns-in-Err-Failed-clause-complete : goal.returns-in-Err-Failed-clause-complete
returns-in-Err-Failed-clause-complete g c =
    let none = adds_none (g.K.Sink.told c.args.out) in
    rw (c.no_value-in-Err-Failed.ensures, c.stopped-in-Err-Failed.ensures.report) (λ bytes program h a calm never.
    complete _ bytes program _ _ c.args.words.steps _ _ _ _ _ (failed (c.in-Err-Failed.ensures.failed (ap Err c.in-Err-Failed.field-0-is)) none) h a calm (λ e. absurd (cc)) never (λ e. cc))

pub returns-in-Err-Memory-clause-complete : goal.returns-in-Err-Memory-clause-complete
returns-in-Err-Memory-clause-complete g c =
    let none = adds_none (g.K.Sink.told c.args.out) in
    rw (c.no_value-in-Err-Memory.ensures, c.stopped-in-Err-Memory.ensures.report) (λ bytes program h a calm never.
    complete _ bytes program _ _ c.args.words.steps _ _ _ _ _ (run.Runs.out_of_memory none) h a calm (λ e. absurd (cc)) never (λ e. cc))
