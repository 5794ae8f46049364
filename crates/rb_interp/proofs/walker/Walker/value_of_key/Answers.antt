use Rattle.std.proofs.Common.{◌≡◌, to_z, of_z, w64, rules}
use Rattle.rb_model.specs.Values.{Int, plain}
use Rattle.rb_walk.specs.Answers.{steps_of}
use Rattle.rb_walk.proofs.Immediates.{given_held, told_by}
use Rattle.rb_interp.proofs.walker.Walker.value_of_key.Goals as goal

pub returns-in-Some : goal.returns-in-Some
returns-in-Some g c =
    let z : to_z w64 (of_z w64 c.in-Some.n) ≡ c.in-Some.n = search rules in
    let own = g.O.ThreadStore.private c.args.self.now.store in
    let told = rw z at c.key_told.ensures in
    told_by own c.args.hash c.args.method c.args.key.now (steps_of c.args.is_over) c.args.room.now (Int c.in-Some.n) _ (c.in-Some.ensures own) told

pub returns-in-Some-local_at : goal.returns-in-Some-local_at
returns-in-Some-local_at g c =
    let own = g.O.ThreadStore.private c.args.self.now.store in
    let key = plain c.in-Some-local_at.key.now in
    told_by own c.args.hash c.args.method c.args.key.now (steps_of c.args.is_over) c.args.room.now key _ (given_held c.args.key.now c.args.room.now own key c.args.is_over c.if-is_over.false c.in-Some-local_at.ensures) c.key_told-in-Some-local_at.ensures
