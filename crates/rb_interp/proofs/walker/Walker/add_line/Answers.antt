use Rattle.std.proofs.Common.{ap}
use Rattle.std.specs.Prelude.{Err}
use Rattle.rb_model.specs.Values.{plain}
use Rattle.rb_machine.specs.Texts.{shown}
use Rattle.rb_walk.specs.Outcome.{is_left, value_of}
use Rattle.rb_walk.proofs.Drafting.{end_left, left_only, line_most}
use Rattle.rb_walk.proofs.Lines.{line_joins, line_ends}
use Rattle.rb_interp.proofs.walker.Walker.add_line.Goals as goal

pub returns-in-Ok-clause-came : goal.returns-in-Ok-clause-came
returns-in-Ok-clause-came g c = λ S start k sc d a.
    let t = c.take-value.ensures in
    let line = shown c.args.self.now.context.program.now (value_of c.args.came c.args.self.now.value) in
    let joined = rw (t.stays.1, t.value) at c.in-Ok.ensures.given in
    (λ q. absurd (cc), λ q. line_joins S _ start _ _ c.args.at k sc d _ c.args.draft.now c.give_line.new.draft line joined a)

pub returns-in-Ok-clause-work : goal.returns-in-Ok-clause-work
returns-in-Ok-clause-work g c = λ q. line_most c.args.draft.now _ (shown c.take-value.new.self.context.program.now (plain c.take-value.result)) c.in-Ok.ensures.given

pub returns-in-Err-clause-came : goal.returns-in-Err-clause-came
returns-in-Err-clause-came g c = λ S start k sc d a.
    let t = c.take-value.ensures in
    let line = shown c.args.self.now.context.program.now (value_of c.args.came c.args.self.now.value) in
    let y = c.end_text in
    let o = y.ensures in
    let long = rw (t.stays.1, t.value) at c.in-Err.ensures.too_long in
    let ends = line_ends S _ start _ _ c.args.at k sc d _ c.args.draft.now line c.in-Err.fault (λ e. long (ap Err e)) a in
    rw o.gives (left_only (is_left y.result) (end_left y.result y.new.self.value y.new.self.leave _ c.args.at o.gives) ends)

pub returns-in-Err-clause-work : goal.returns-in-Err-clause-work
returns-in-Err-clause-work g c = λ q.
    let y = c.end_text in
    let t = end_left y.result y.new.self.value y.new.self.leave _ c.args.at y.ensures.gives in
    absurd (cc)
