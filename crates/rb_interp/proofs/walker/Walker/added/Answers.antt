use Rattle.std.proofs.Common.{◌≡◌, ◌<◌, rules, to_z, of_z, w64, SFits, arith}
use Rattle.rb_walk.proofs.Adding.{adds}
use Rattle.rb_interp.proofs.walker.Walker.added.Goals as goal

pub returns-clause-came : goal.returns-clause-came
returns-clause-came g c = λ S start k names size at st f len a.
    let y = c.in_ok-sum.ensures in
    let n = c.in_ok-n.n in
    let sum = c.in_ok-sum.sum in
    let long : SFits w64 sum = search rules in
    let z : to_z w64 (of_z w64 sum) ≡ sum = search rules in
    let more : 0 < c.args.self.now.left = omega (arith, c.if-self-eq0.false) in
    let deep : c.args.depth < 1000 = omega (arith, c.if-depth-ge-MAX_DEPTH.false) in
    let here = c.in_ok-object.was in
    let w : to_z w64 (of_z w64 n) ≡ n = search rules in
    let gave = rw w at y.gave in
    rw (z, here) (adds S _ start _ _ _ k c.in_ok-object.object names size c.args.depth c.args.self.now.left c.args.room.now c.args.name c.args.value.now at n sum
    c.in_ok-n.ensures f len more deep long y.there gave y.read y.gives y.private (rw (here, c.in-Plus.is) at a))
