use Rattle.std.proofs.Common.{◌≡◌, rules, to_z, of_z, w64}
use Rattle.rb_walk.proofs.Fetching.{fetches_field}
use Rattle.rb_interp.proofs.walker.Walker.variable_at.Goals as goal

pub returns : goal.returns
returns g c = λ room.
    let x = c.in-Field in
    let n = c.in_ok-n.n in
    let z : to_z w64 (of_z w64 n) ≡ n = search rules in
    rw (z, c.in_ok-object.was) (fetches_field c.args.self.now.context.script.now c.in_ok-object.object c.args.code.now room (g.O.ThreadStore.private c.args.self.now.store) x.name x.field-1 n x.is c.in_ok-n.ensures)
