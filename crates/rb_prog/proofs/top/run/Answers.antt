use Rattle.std.proofs.Common.{◌≡◌, ap, ◌∙◌, Some, sym, subst}
use Rattle.rb_command.specs.Words.{Run, Work}
use Rattle.rb_command.specs.Seen.{run_seen, work_seen}
use Rattle.rb_workload.specs.Script.{script}
use Rattle.rb_prog.specs.Run as spec
use Rattle.rb_prog.specs.Run.{Accepts}
use Rattle.rb_prog.proofs.Adding.{adds_none}
use Rattle.rb_prog.proofs.Showing.{shows_no_memory}
use Rattle.rb_prog.proofs.Wording.{same_run, same_shapes, same_work}
use Rattle.rb_prog.proofs.top.run.Goals as goal

pub returns-in-Ok-Some-Run-clause-complete : goal.returns-in-Ok-Some-Run-clause-complete
returns-in-Ok-Some-Run-clause-complete g c = λ wanted bytes program w h a calm never.
    let found = c.in-Ok-Some-Run in
    let same : run_seen found.words ≡ wanted = same_run found.field-0 found.words _ found.ensures wanted (found.field-0-is ∙ ap Some found.field-0-0-is) w in
    c.run_file.ensures.complete bytes program (ap (λ (r : Run). g.F.Files.held c.args.files.now r.file) same ∙ h) a calm never

pub returns-in-Ok-Some-Shapes-clause-shapes_complete : goal.returns-in-Ok-Some-Shapes-clause-shapes_complete
returns-in-Ok-Some-Shapes-clause-shapes_complete g c = λ wanted bytes program w h a calm never.
    let found = c.in-Ok-Some-Shapes in
    let same : run_seen found.words ≡ wanted = same_shapes found.field-0 found.words _ found.ensures wanted (found.field-0-is ∙ ap Some found.field-0-0-is) w in
    c.show_file.ensures.complete bytes program (ap (λ (r : Run). g.F.Files.held c.args.files.now r.file) same ∙ h) a calm never

pub returns-in-Ok-Some-Work-clause-works_complete : goal.returns-in-Ok-Some-Work-clause-works_complete
returns-in-Ok-Some-Work-clause-works_complete g c = λ wanted program w accepted never.
    let found = c.in-Ok-Some-Work in
    let same : work_seen found.words ≡ wanted = same_work found.field-0 found.words _ wanted found.ensures (found.field-0-is ∙ ap Some found.field-0-0-is) w in
    c.run_work.ensures.complete program (subst (λ (k : Work). Accepts (script k.number k.size) program) (sym same) accepted) never

pub returns-clause-runs : goal.returns-clause-runs
returns-clause-runs g c = λ wanted w. rw c.stopped-in-Err.ensures.report (_, spec.Runs.out_of_memory (adds_none (g.K.Sink.told c.args.out)), c.stopped-in-Err.ensures.told)

pub returns-clause-shows : goal.returns-clause-shows
returns-clause-shows g c = λ wanted w. rw c.stopped-in-Err.ensures.report (_, shows_no_memory _ _ wanted.steps (g.K.Sink.told c.args.out), c.stopped-in-Err.ensures.told)

pub returns-clause-works : goal.returns-clause-works
returns-clause-works g c = λ wanted w. rw c.stopped-in-Err.ensures.report (_, spec.RunsSource.out_of_memory (adds_none (g.K.Sink.told c.args.out)), c.stopped-in-Err.ensures.told)
