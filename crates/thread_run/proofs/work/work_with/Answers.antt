use Rattle.std.proofs.Common.{◌∙◌, sym, subst}
use Rattle.rb_model.specs.Ends.{over}
use Rattle.rb_code.specs.Stands.{StandsFor}
use Rattle.rb_machine.specs.Follows.{Comes}
use Rattle.rb_thread.specs.Alive.{Left}
use Rattle.rb_thread.specs.Family.{start_of}
use Rattle.thread_run.specs.Tasks.{job_in}
use Rattle.thread_run.proofs.Cutting.{caused}
use Rattle.thread_run.proofs.work.work_with.Goals as goal

pub new-own-requires-clause-spawns : goal.new-own-requires-clause-spawns
new-own-requires-clause-spawns g c = let w = c.requires.whose in rw (w.0, w.1) c.requires.spawns

pub returns-clause-left : goal.returns-clause-left
returns-clause-left g c =
    let w = c.requires.whose in
    let st = c.requires.stands in
    let S = g.J.Whose.script in
    let view = g.S.SharedStore.view in
    let out = c.walk-own.result in
    let goes = c.walk-own.ensures.goes S (subst (λ x. StandsFor x S) (sym c.code-code.ensures) st.0) (st.1 ∙ sym c.program-program.ensures) in
    let comes = goes.comes in
    let by_steps = subst (λ N. Comes S N (start_of S N (job_in c.args.task)) (view out.0.seat.pass).log out.0.things (over out.2) out.1) (sym w.1) comes in
    let by_job = subst (λ j. Comes S g.J.Whose.steps (start_of S g.J.Whose.steps j) (view out.0.seat.pass).log out.0.things (over out.2) out.1) (sym w.2) by_steps in
    let left = c.finish-seat.ensures.ends by_job (caused _ _ goes.caused) in
    let seen = view c.finish-seat.result.seat.pass in
    let how = over c.finish-seat.result.end in
    let told = subst (λ xs. Left S g.J.Whose.steps g.J.Whose.job xs seen how) (sym c.finish-seat.ensures.shapes) left in
    subst (λ N. Left S N (job_in c.args.task) c.finish-seat.result.shapes seen how) w.1 (subst (λ j. Left S g.J.Whose.steps j c.finish-seat.result.shapes seen how) w.2 told)
