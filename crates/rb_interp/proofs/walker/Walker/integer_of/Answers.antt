use Rattle.std.proofs.Common.{◌≡◌, to_z, of_z, w64, ap, rules}
use Rattle.rb_model.specs.Acts.{GetField}
use Rattle.rb_model.specs.Immediates.{value_told}
use Rattle.rb_model.specs.Values.{Int}
use Rattle.rb_walk.proofs.Immediates.{there_gives}
use Rattle.rb_interp.proofs.walker.Walker.integer_of.Goals as goal

pub returns-in-Int : goal.returns-in-Int
returns-in-Int g c =
    let y = c.immediate_field.ensures in
    let n = c.in-Int.n in
    let z : to_z w64 (of_z w64 n) ≡ n = search rules in
    let t = there_gives (g.O.ThreadStore.private c.args.self.now.store) c.args.object.id (GetField c.args.field) c.immediate_field.result (Int n) y.told (ap value_told c.in-Int.is) in
    rw z (record { there = t.0; gives = t.1; stays = y.private })
