use Rattle.std.proofs.Common.{◌≡◌, ◌∙◌, sym, to_z, of_z, w64, rules}
use Rattle.rb_model.specs.Acts.{At}
use Rattle.rb_model.specs.Acts as reply
use Rattle.rb_builtin.specs.Deeds.{thing_of}
use Rattle.rb_walk.proofs.Immediates.{there_and_gives, told_value}
use Rattle.rb_walk.proofs.Objects.{asked_reply}
use Rattle.rb_interp.proofs.walker.Walker.element.Goals as goal

pub returns-then-is_told-clause-came : goal.returns-then-is_told-clause-came
returns-then-is_told-clause-came g c =
    let z : to_z w64 (of_z w64 c.args.index) ≡ c.args.index = search rules in
    λ S start k sc d a.
    let y = c.immediate_element-element.ensures in
    let v = told_value _ (sym c.is_told.ensures ∙ c.if-is_told.true) in
    let there = there_and_gives (g.O.ThreadStore.private c.args.self.now.store) c.args.array c.args.index c.immediate_element-element.result v.0 (rw z at y.told) v.1 in
    rw (c.immediate.ensures v.0 c.args.self.now.value c.args.self.now.leave v.1)
    (asked_reply S _ start _ _ _ (thing_of c.args.array) (At c.args.index) (reply.Value v.0) c.args.at k sc d _ there.0 there.1 (rw z at y.private) a)

pub returns-clause-came : goal.returns-clause-came
returns-clause-came g c =
    let z : to_z w64 (of_z w64 c.args.index) ≡ c.args.index = search rules in
    rw z at c.element_apart.ensures.came
