use Rattle.rb_resolver.specs.Names.{script_of}
use Rattle.thread_run.specs.Tasks.{job_in}
use Rattle.thread_run.proofs.work.work_here.Given as goal

abbrev pub ghosts-work_with : goal.ghosts-work_with
ghosts-work_with g a = record { id = g.S.SharedStore.id a.store.now; script = script_of (g.W.Scripted.tree a.script.now); steps = a.steps; job = job_in a.task }
