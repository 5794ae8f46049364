use Rattle.std.proofs.Common.{◌≡◌, to_z, of_z, w64, rules}
use Rattle.rb_model.specs.Acts.{At}
use Rattle.rb_model.specs.Values.{Int}
use Rattle.rb_walk.specs.Answers.{steps_of}
use Rattle.rb_walk.proofs.Immediates.{element_told, told_by, told_of}
use Rattle.rb_interp.proofs.walker.Walker.element_at.Goals as goal

pub returns : goal.returns
returns g c =
    let z : to_z w64 (of_z w64 c.in-Some-computed.index) ≡ c.in-Some-computed.index = search rules in
    let y = c.immediate_element in
    let n = c.in-Some-computed.index in
    let own = g.O.ThreadStore.private c.args.self.now.store in
    let array = c.in-Some.array in
    let told = told_of own array c.args.method (Int n) (At n) y.result (c.is_element.ensures c.if-not-is_element.false n) (rw z at y.ensures.told) (rw z at y.ensures.private) in
    element_told own c.args.method c.args.left.now (steps_of c.args.is_row) c.args.right.now (steps_of c.args.is_over) c.args.room.now array _
    c.in-Some.ensures.given c.in-Some.ensures.unnamed
    (told_by own array c.args.method c.args.right.now (steps_of c.args.is_over) c.args.room.now (Int n) _ (c.in-Some-computed.ensures own) told)
