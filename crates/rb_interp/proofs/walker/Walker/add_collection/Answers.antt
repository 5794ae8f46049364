use Rattle.std.proofs.Common.{◌∷◌, ◌∙◌, sym, ap}
use Rattle.std.specs.Prelude.{Err}
use Rattle.rb_model.specs.Values.{To}
use Rattle.rb_machine.specs.Control.{Then, WriteBehind, Inspecting}
use Rattle.rb_builtin.specs.Deeds.{thing_of}
use Rattle.rb_walk.specs.Outcome.{is_left, value_of}
use Rattle.rb_walk.proofs.Outcomes.{given, passes}
use Rattle.rb_walk.proofs.Drafting.{end_left, left_only, form_drafted, line_written, line_ends}
use Rattle.rb_interp.proofs.walker.Walker.add_collection.Goals as goal

pub returns-then-is_left-clause-came : goal.returns-then-is_left-clause-came
returns-then-is_left-clause-came g c = λ all vs S start k sc p a.
    let y = c.inspected-came in
    let step = WriteBehind (Inspecting all) c.args.bytes.now.items vs c.args.at in
    let b = form_drafted S _ start _ _ all vs _ c.args.at k sc c.args.depth _ (To (thing_of c.args.thing)) c.requires.collection a in
    let left = sym c.is_left.ensures ∙ c.if-is_left.true in
    let come = y.ensures.came S start (Then step ∷ k) sc p b in
    left_only (is_left y.result) left ((passes S _ start _ y.result y.new.self.value y.new.self.leave _ step k sc c.args.depth _ left come))

pub returns-in-Ok-clause-came : goal.returns-in-Ok-clause-came
returns-in-Ok-clause-came g c = λ all vs S start k sc p a.
    let y = c.inspected-came in
    let step = WriteBehind (Inspecting all) c.args.bytes.now.items vs c.args.at in
    let b = form_drafted S _ start _ _ all vs _ c.args.at k sc c.args.depth _ (To (thing_of c.args.thing)) c.requires.collection a in
    let come = (y.ensures.came S start (Then step ∷ k) sc p b) in
    let gave = given y.result y.new.self.value y.new.self.leave (sym c.is_left.ensures ∙ c.if-is_left.false) come in
    let t = c.take-text.ensures in
    let said = rw t.value at (c.in-Ok.ensures.text S) in
    (λ q. absurd (cc), λ q. rw (t.stays.2, t.stays.3) (line_written S _ start _ _ all vs _ c.args.at k sc c.args.depth _ (value_of y.result y.new.self.value) _ said c.in-Ok.ensures.fits gave))

pub returns-clause-came : goal.returns-clause-came
returns-clause-came g c = λ all vs S start k sc p a.
    let y = c.inspected-came in
    let step = WriteBehind (Inspecting all) c.args.bytes.now.items vs c.args.at in
    let b = form_drafted S _ start _ _ all vs _ c.args.at k sc c.args.depth _ (To (thing_of c.args.thing)) c.requires.collection a in
    let come = (y.ensures.came S start (Then step ∷ k) sc p b) in
    let gave = given y.result y.new.self.value y.new.self.leave (sym c.is_left.ensures ∙ c.if-is_left.false) come in
    let t = c.take-text.ensures in
    let long = rw t.value at (c.in-Err.ensures.too_long S) in
    let z = c.end_text in
    let o = z.ensures in
    rw (o.gives, o.stays.2, o.stays.3, t.stays.2, t.stays.3) (left_only (is_left z.result) (end_left z.result z.new.self.value z.new.self.leave _ c.args.at o.gives)
    (line_ends S _ start _ _ all vs _ c.args.at k sc c.args.depth _ (value_of y.result y.new.self.value) c.in-Err.fault (λ e. long (ap Err e)) gave))

pub returns-in-Ok-clause-fits : goal.returns-in-Ok-clause-fits
returns-in-Ok-clause-fits g c = λ q. c.in-Ok.ensures.fits

pub returns-clause-fits : goal.returns-clause-fits
returns-clause-fits g c = λ q.
    let z = c.end_text in
    let t = end_left z.result z.new.self.value z.new.self.leave _ c.args.at z.ensures.gives in
    absurd (cc)

pub returns-then-is_left-clause-fits : goal.returns-then-is_left-clause-fits
returns-then-is_left-clause-fits g c = λ q.
    let t = sym c.is_left.ensures ∙ c.if-is_left.true in
    absurd (cc)
