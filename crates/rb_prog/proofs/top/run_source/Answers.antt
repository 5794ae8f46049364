use Rattle.rb_prog.specs.Run as run
use Rattle.rb_prog.specs.Run.{shown}
use Rattle.rb_prog.proofs.Adding.{adds_none}
use Rattle.rb_prog.proofs.Completing.{full_heap}
use Rattle.rb_prog.proofs.Judging.{not_run}
use Rattle.rb_prog.proofs.Showing.{left_of, quiet, rejected_not_0}
use Rattle.rb_prog.proofs.top.run_source.Goals as goal

pub returns-in-Err-clause-runs : goal.returns-in-Err-clause-runs
returns-in-Err-clause-runs g c =
    let told = g.K.Sink.told c.args.out in
    rw (c.no_value.ensures, c.rejected.ensures.report) (_, not_run c.args.source.now c.in-Err.why c.args.steps told told c.in-Err.ensures.accepts (adds_none told), c.rejected.ensures.told)

pub returns-in-Ok-run_accepted-clause-runs : goal.returns-in-Ok-run_accepted-clause-runs
returns-in-Ok-run_accepted-clause-runs g c = rw c.status_of.ensures (_, shown c.in-Ok.ensures.accepts c.in-Ok-run_accepted.ensures.runs, c.tell_end.ensures.told)

pub returns-in-Err-run_accepted-clause-runs : goal.returns-in-Err-run_accepted-clause-runs
returns-in-Err-run_accepted-clause-runs g c =
    let told = g.K.Sink.told c.args.out in
    rw (c.no_value-in-Err-run_accepted.ensures, c.stopped.ensures.report)
    (_, run.RunsSource.out_of_memory (rw c.in-Err-run_accepted.ensures.back (adds_none told)), c.stopped.ensures.told)

pub returns-in-Ok-run_accepted-clause-never_full : goal.returns-in-Ok-run_accepted-clause-never_full
returns-in-Ok-run_accepted-clause-never_full g c = rw c.status_of.ensures (λ e. full_heap _ e c.in-Ok-run_accepted.ensures.never_full)

pub returns-in-Ok-run_accepted-clause-value : goal.returns-in-Ok-run_accepted-clause-value
returns-in-Ok-run_accepted-clause-value g c =
    left_of _ c.args.source.now c.args.steps _ _ _ _ c.in-Ok.program c.in-Ok-run_accepted.field-0.shapes c.in-Ok.ensures.accepts c.in-Ok-run_accepted.ensures.runs c.value_left.ensures.value

pub returns-in-Ok-run_accepted-clause-quiet : goal.returns-in-Ok-run_accepted-clause-quiet
returns-in-Ok-run_accepted-clause-quiet g c = quiet _ _ c.in-Ok.program c.in-Ok-run_accepted.field-0.shapes c.args.source.now c.args.steps _ _ _ c.value_left.ensures.value c.tell_end.ensures.told

pub returns-in-Ok-run_accepted-clause-other : goal.returns-in-Ok-run_accepted-clause-other
returns-in-Ok-run_accepted-clause-other g c = rw c.status_of.ensures c.value_left.ensures.other

pub returns-in-Err-clause-other : goal.returns-in-Err-clause-other
returns-in-Err-clause-other g c = rw (c.no_value.ensures, c.rejected.ensures.report) (λ none. rejected_not_0 c.in-Err.why)
