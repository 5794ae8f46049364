use Rattle.std.proofs.Common.{ap}
use Rattle.std.specs.Prelude.{Err}
use Rattle.rb_machine.specs.Texts.{shown, styled}
use Rattle.rb_render.specs.Forms.{style_of}
use Rattle.rb_walk.specs.Outcome.{is_left, value_of}
use Rattle.rb_walk.proofs.Drafting.{end_left, left_only}
use Rattle.rb_walk.proofs.Lines.{text_joins, text_long}
use Rattle.rb_interp.proofs.walker.Walker.add_came.Goals as goal

pub returns-in-Ok-clause-came : goal.returns-in-Ok-clause-came
returns-in-Ok-clause-came g c = λ S start k sc d to same a.
    let t = c.take-value.ensures in
    let text = styled (style_of c.args.style) (shown c.args.self.now.context.program.now (value_of c.args.came c.args.self.now.value)) in
    let joined = rw (t.stays.1, t.value) at c.in-Ok.ensures.text in
    (λ q. absurd (cc), λ q. text_joins S _ start _ _ c.args.at k sc d _ c.args.bytes.now.items c.add_taken.new.out.items text to joined c.in-Ok.ensures.fits a)

pub returns-in-Ok-clause-fits : goal.returns-in-Ok-clause-fits
returns-in-Ok-clause-fits g c = λ q. c.in-Ok.ensures.fits

pub returns-in-Err-clause-came : goal.returns-in-Err-clause-came
returns-in-Err-clause-came g c = λ S start k sc d to same a.
    let t = c.take-value.ensures in
    let text = styled (style_of c.args.style) (shown c.args.self.now.context.program.now (value_of c.args.came c.args.self.now.value)) in
    let y = c.end_text in
    let o = y.ensures in
    let long = rw (t.stays.1, t.value) at c.in-Err.ensures.too_long in
    let ends = text_long S _ start _ _ c.args.at k sc d _ c.args.bytes.now.items text to c.in-Err.fault (λ e. long (ap Err e)) same a in
    rw o.gives (left_only (is_left y.result) (end_left y.result y.new.self.value y.new.self.leave _ c.args.at o.gives) ends)

pub returns-in-Err-clause-fits : goal.returns-in-Err-clause-fits
returns-in-Err-clause-fits g c = λ q.
    let y = c.end_text in
    let t = end_left y.result y.new.self.value y.new.self.leave _ c.args.at y.ensures.gives in
    absurd (cc)
