use Rattle.std.proofs.Common.{◌≡◌, false, rules, to_z, of_z, w64}
use Rattle.rb_walk.specs.Answers.{steps_of}
use Rattle.rb_walk.specs.Carries.{me_of}
use Rattle.rb_walk.proofs.Fetching.{fetches_computed}
use Rattle.rb_interp.proofs.walker.Walker.near_operand.Goals as goal

pub returns-in-Some : goal.returns-in-Some
returns-in-Some g c =
    let z : to_z w64 (of_z w64 c.in-Some.n) ≡ c.in-Some.n = search rules in
    rw z (c.in-Some.ensures c.args.room.now)

pub returns : goal.returns
returns g c =
    let n = c.in_ok-n.n in
    let z : to_z w64 (of_z w64 n) ≡ n = search rules in
    rw z (fetches_computed c.args.self.now.context.script.now (me_of c.args.self.now.context.me) (steps_of false) c.args.code.now c.args.room.now (g.O.ThreadStore.private c.args.self.now.store) n c.in_ok-n.ensures)
