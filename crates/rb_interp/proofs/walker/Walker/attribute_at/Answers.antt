use Rattle.std.proofs.Common.{◌≡◌, [], refl, rules, to_z, of_z, w64}
use Rattle.rb_model.specs.Values.{plain}
use Rattle.rb_walk.specs.Answers.{IsHeld}
use Rattle.rb_walk.specs.Carries.{me_of}
use Rattle.rb_walk.proofs.Fetching.{fetches_reader}
use Rattle.rb_interp.proofs.walker.Walker.attribute_at.Goals as goal

pub returns : goal.returns
returns g c =
    let x = c.in-Send in
    let own = g.O.ThreadStore.private c.args.self.now.store in
    let n = c.in_ok-n.n in
    let z : to_z w64 (of_z w64 n) ≡ n = search rules in
    let v = plain c.in_ok-local_at.field-0.now in
    let none : x.args ≡ [] = c.if-not-is_empty.ensures.0 refl in
    let held : IsHeld x.receiver c.args.room.now v = rw c.get.ensures at c.in_ok-local_at.ensures in
    rw z (fetches_reader c.args.self.now.context.script.now (me_of c.args.self.now.context.me) c.args.code.now c.args.room.now own x.field-0 x.name x.receiver x.args x.field-4 v
    c.in_ok-reader.reader.object c.in_ok-reader.reader.field c.in_ok-reader.reader.at n x.is none held c.in_ok-reader.ensures c.in_ok-n.ensures)
