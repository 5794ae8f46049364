use Rattle.std.proofs.Common.{◌∙◌, sym}
use Rattle.rb_model.specs.Acts as reply
use Rattle.rb_model.specs.Immediates.{taking}
use Rattle.rb_builtin.specs.Deeds.{thing_of}
use Rattle.rb_walk.proofs.Immediates.{not_told, there_gives, told_value}
use Rattle.rb_walk.proofs.Objects.{asked_reply}
use Rattle.rb_interp.proofs.walker.Walker.asked_alone.Goals as goal

pub returns-then-is_told-clause-came : goal.returns-then-is_told-clause-came
returns-then-is_told-clause-came g c = λ name e S start k sc p a.
    let y = c.take_immediate-told.ensures in
    let v = told_value _ (sym c.is_told.ensures ∙ c.if-is_told.true) in
    let known = there_gives (g.O.ThreadStore.private c.args.self.now.store) c.args.thing.id (taking c.in-Some.side) _ v.0 y.told v.1 in
    let asked = c.in-Some.ensures c.args.self.now.context.program.now name e in
    rw (c.immediate.ensures v.0 c.args.self.now.value c.args.self.now.leave v.1, y.log)
    (asked_reply S _ start _ _ _ (thing_of c.args.thing) (taking c.in-Some.side) (reply.Value v.0) c.args.at k sc c.args.depth c.args.self.now.left known.0 known.1 (rw v.1 at y.private) (rw asked at a))

pub returns-clause-came : goal.returns-clause-came
returns-clause-came g c =
    let y = c.take_immediate-told.ensures in
    let none = not_told _ (sym c.is_told.ensures ∙ c.if-is_told.false) in
    rw (y.log, y.kept none) at c.call_any-2.ensures.came
