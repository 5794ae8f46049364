use Rattle.rb_resolver.specs.Names.{script_of}
use Rattle.rb_thread.specs.Family.{job_of}
use Rattle.thread_run.proofs.work.end_here.Given as goal

abbrev pub ghosts-end_unbegun : goal.ghosts-end_unbegun
ghosts-end_unbegun g a = record { id = g.S.SharedStore.id a.store.now; script = script_of (g.W.Scripted.tree a._script.now); steps = a._steps; job = job_of a.job.now }
