use Rattle.std.proofs.Common.{◌<◌, Some, sym, arith}
use Rattle.rb_walk.specs.Outcome.{value_of, outcome}
use Rattle.rb_walk.specs.Carries.{me_of}
use Rattle.rb_walk.proofs.Outcomes.{comes, settled_exit}
use Rattle.rb_walk.proofs.Readers.{enters_writer}
use Rattle.rb_interp.proofs.walker.Walker.entered_giving.Goals as goal

pub returns-clause-came : goal.returns-clause-came
returns-clause-came g c = λ S start k sc at right a.
    let w = c.write_value in
    let q = w.ensures in
    let v = value_of c.args.came c.args.self.now.value in
    let r = c.in_ok-field.ensures in
    let more : 1 < c.args.self.now.left = omega (arith, c.if-self-lt2.false) in
    let deep : c.args.depth < 999 = omega (arith, c.if-depth.false) in
    let come = enters_writer S _ start _ _ _ _ k sc c.args.depth c.args.self.now.left (me_of (Some c.args.target.object)) v c.args.target.method.now _ _ at _ r right more deep q.came a in
    rw q.stays.2 (comes S _ start _ _ k sc c.args.depth _ _ _ (sym (settled_exit v (outcome w.result w.new.self.value w.new.self.leave) q.settled)) come)
