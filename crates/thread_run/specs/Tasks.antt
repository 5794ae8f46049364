-- What a task is.
use Rattle.std.specs.Prelude.{List, []}
use Rattle.rb_model.specs.declared.value.Ref.{Ref}
use Rattle.rb_thread.specs.Family.{Job, Main, job_of}
use Rattle.thread_run.specs.declared.task.Task.{Task}
use Rattle.thread_run.specs.declared.task.Task.TheVariants as task

abbrev pub job_in : Task → Job
job_in task.Main = Main
job_in (task.Body job) = job_of job

-- the references to shared things that it knows by its job
abbrev pub refs_in : Task → List Ref
refs_in task.Main = []
refs_in (task.Body job) = job.refs.items
