use Rattle.std.proofs.Common.{◌≡◌, ◌<◌, Some, of_z, to_z, w64, arith, rules}
use Rattle.rb_model.specs.Values.{Int}
use Rattle.rb_walk.specs.Carries.{me_of}
use Rattle.rb_walk.proofs.Readers.{enters_writer}
use Rattle.rb_interp.proofs.walker.Walker.entered_writing.Goals as goal

pub returns-clause-came : goal.returns-clause-came
returns-clause-came g c = λ v S start k sc at right a.
    let o = c.out_of_call.ensures in
    let q = c.write_integer-done.ensures in
    let r = c.in_ok-field.ensures in
    let n = c.in-Int.n in
    let z : to_z w64 (of_z w64 n) ≡ n = search rules in
    let more : 1 < c.args.self.now.left = omega (arith, c.if-self-lt2.false) in
    let deep : c.args.depth < 999 = omega (arith, c.if-depth.false) in
    rw (o.gives, o.stays.2, o.stays.3, q.stays.2)
    (enters_writer S _ start _ _ _ _ k sc c.args.depth c.args.self.now.left (me_of (Some c.args.target.object)) (Int n) c.args.target.method.now _ _ at _ r right more deep (rw z at q.came) (rw c.in-Int.is at a))
