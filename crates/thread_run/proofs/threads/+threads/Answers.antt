use Rattle.std.proofs.Common.{◌∷◌, [], ◌∙◌, ap}
use Rattle.rb_shared.specs.View.{to_globals}
use Rattle.publish_barrier.specs.Known.{with_all_noted}
use Rattle.rb_thread.proofs.Begun.{told_known}
use Rattle.thread_run.proofs.threads.+threads.Goals as goal

pub run_thread-run_task-requires-clause-known : goal.run_thread-run_task-requires-clause-known
run_thread-run_task-requires-clause-known g t c κs within =
    told_known (g.S.SharedStore.view c.args.pass) c.args.job.refs.items c.in-Ok.known.refs c.requires.fresh.globals c.requires.known
    (c.in-Ok.ensures.known ∙ ap (with_all_noted (to_globals ∷ [])) c.as_slice.ensures.value)
