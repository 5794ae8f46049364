use Rattle.std.proofs.Common.{◌≡◌, ◌<◌, rules, to_z, of_z, w64, SFits, arith}
use Rattle.rb_walk.proofs.Adding.{enters_adder}
use Rattle.rb_interp.proofs.walker.Walker.entered_adding.Goals as goal

pub returns-clause-came : goal.returns-clause-came
returns-clause-came g c = λ v S start k sc at right a.
    let y = c.in_ok-sum.ensures in
    let n = c.in-Int.n in
    let sum = c.in_ok-sum.sum in
    let long : SFits w64 sum = search rules in
    let z : to_z w64 (of_z w64 sum) ≡ sum = search rules in
    let w : to_z w64 (of_z w64 n) ≡ n = search rules in
    let gave = rw w at y.gave in
    let more : 1 < c.args.self.now.left = omega (arith, c.if-self-lt2.false) in
    let deep : c.args.depth < 999 = omega (arith, c.if-depth.false) in
    rw (z, c.add_to_field.ensures.log)
    (enters_adder S _ start _ _ _ k sc c.args.depth c.args.self.now.left c.args.target.object c.args.target.method.now _ _ at n sum c.in_ok-field.ensures right more deep long y.there gave y.read y.gives y.private (rw c.in-Int.is at a))
