use Rattle.std.proofs.Common.{ap}
use Rattle.shared_script.proofs.Crossing.{shareable}
use Rattle.rb_prog.proofs.Threads.{shown_run, sink_cause, never_full}
use Rattle.rb_prog.proofs.running.run_threads.Goals as goal

pub run_shared-front-requires-sync-W : goal.run_shared-front-requires-sync-W
run_shared-front-requires-sync-W g c κs within = search shareable depth 20

pub returns-clause-runs : goal.returns-clause-runs
returns-clause-runs g c =
    shown_run _ _ _ _ _ _ _ _ _ c.in-Ok-new.ensures.slots (ap g.K.Sink.told c.in-Ok-new.ensures.sink) c.run_shared-front.ensures.runs

pub returns-clause-cause : goal.returns-clause-cause
returns-clause-cause g c =
    let ran = c.run_shared-front.ensures in
    sink_cause _ _ _ _ _ _ _ _ ran.runs _ _ _ ran.cause (ap g.K.Sink.faults c.in-Ok-new.ensures.sink)

pub returns-clause-never_full : goal.returns-clause-never_full
returns-clause-never_full g c =
    let ran = c.run_shared-front.ensures in
    never_full _ _ _ _ _ _ _ _ ran.runs _ ran.full (λ used asked none. none)
