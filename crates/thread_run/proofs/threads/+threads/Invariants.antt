-- How many generations may still come, and the steps from one to the next.
use Rattle.std.proofs.Common.{◌+◌, ◌*◌}
use Rattle.rb_shared.specs.View.{room}
use Rattle.thread_run.proofs.threads.+threads.Given as goal

abbrev pub decreases-begin : goal.decreases-begin
decreases-begin g l = 4 * room (g.S.SharedStore.view l.pass) + 2

abbrev pub decreases-begin-start : goal.decreases-begin-start
decreases-begin-start g l = 4 * room (g.S.SharedStore.view l.pass) + 1

abbrev pub decreases-run_task-work_here : goal.decreases-run_task-work_here
decreases-run_task-work_here g l = 4 * room (g.S.SharedStore.view l.pass) + 3

abbrev pub decreases-run_task : goal.decreases-run_task
decreases-run_task g l = 4 * room (g.S.SharedStore.view l.pass)

abbrev pub decreases-run_thread : goal.decreases-run_thread
decreases-run_thread g l = 4 * room (g.S.SharedStore.view l.pass) + 1
