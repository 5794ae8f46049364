use Rattle.std.proofs.Common.{◌<◌, Some, arith}
use Rattle.rb_walk.specs.Carries.{me_of}
use Rattle.rb_walk.proofs.Readers.{enters_reader}
use Rattle.rb_interp.proofs.walker.Walker.entered_reader.Goals as goal

pub returns-clause-came : goal.returns-clause-came
returns-clause-came g c = λ S start k sc at right a.
    let o = c.out_of_call.ensures in
    let q = c.ask-came.ensures in
    let r = c.in_ok-field.ensures in
    let more : 0 < c.args.self.now.left = omega (arith, c.if-self-eq0.false) in
    let deep : c.args.depth < 1000 = omega (arith, c.if-depth-ge-MAX_DEPTH.false) in
    rw (o.gives, o.stays.2, o.stays.3, q.stays.2)
    (enters_reader S _ start _ _ _ _ k sc c.args.depth c.args.self.now.left (me_of (Some c.args.target.object)) c.args.target.method.now _ _ at _ r more deep q.came a)
