use Rattle.std.proofs.Common.{◌≡◌, ◌∙◌, sym, to_z, of_z, w64, rules}
use Rattle.rb_model.specs.Acts as reply
use Rattle.rb_builtin.specs.Deeds.{thing_of}
use Rattle.rb_walk.proofs.Immediates.{told_value}
use Rattle.rb_walk.proofs.Objects.{asked_reply}
use Rattle.rb_interp.proofs.walker.Walker.asked_value.Goals as goal

pub returns-in-Some-clause-came : goal.returns-in-Some-clause-came
returns-in-Some-clause-came g c =
    let z : to_z w64 (of_z w64 c.in-Some.index) ≡ c.in-Some.index = search rules in
    λ name e S start k sc p a.
    let q = c.in-Some.ensures in
    let asked = q.asked c.in-Some.index c.args.self.now.context.program.now name e in
    let y = c.element.ensures in
    rw y.stays.2 ((rw z at y.came) S start k sc c.args.depth (rw asked at (rw q.index at a)))

pub returns-then-is_told-clause-came : goal.returns-then-is_told-clause-came
returns-then-is_told-clause-came g c = λ name e S start k sc p a.
    let v = told_value _ (sym c.is_told.ensures ∙ c.if-is_told.true) in
    let is = rw v.1 at c.key_told-told.ensures in
    let asked = is.asked c.args.self.now.context.program.now name e in
    rw (c.immediate.ensures v.0 c.args.self.now.value c.args.self.now.leave v.1)
    (asked_reply S _ start _ _ _ (thing_of c.args.thing) is.act (reply.Value v.0) c.args.at k sc c.args.depth c.args.self.now.left is.there is.gives is.stays (rw asked at a))

pub returns-clause-came : goal.returns-clause-came
returns-clause-came g c = rw c.as_slice.ensures at c.call_any.ensures.came
