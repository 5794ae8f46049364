use Rattle.thread_run.proofs.Telling.{first_fresh, all_gathered}
use Rattle.thread_run.proofs.Running.{is_run}
use Rattle.thread_run.proofs.run.run_shared.Goals as goal

pub run_threads-pass-requires-clause-fresh : goal.run_threads-pass-requires-clause-fresh
run_threads-pass-requires-clause-fresh g c κs within = first_fresh _ _ _ c.requires.first

pub close-front-requires-clause-gathered : goal.close-front-requires-clause-gathered
close-front-requires-clause-gathered g c κs within = all_gathered _ _ _ _ c.run_threads-pass.ensures.left.ran

pub returns-clause-runs : goal.returns-clause-runs
returns-clause-runs g c =
    is_run _ _ _ _ _ _ _ _ _ c.run_threads-pass.ensures.left c.close-front.ensures.legal c.close-front.ensures.shows c.close-front.ensures.written
