use Rattle.std.proofs.Common.{◌<◌, arith}
use Rattle.rb_model.specs.Values.{plain}
use Rattle.rb_walk.proofs.Readers.{sends_reader}
use Rattle.rb_interp.proofs.walker.Walker.sent_reader.Goals as goal

pub returns-clause-came : goal.returns-clause-came
returns-clause-came g c = λ S start k names size st e m f len a.
    let r = c.in_ok-reader.ensures in
    let o = c.out_of_call.ensures in
    let q = c.ask-came.ensures in
    let more : 1 < c.args.self.now.left = omega (arith, c.if-self-lt2.false) in
    let deep : c.args.depth < 1000 = omega (arith, c.if-depth-ge-MAX_DEPTH.false) in
    rw (o.gives, o.stays.2, o.stays.3, q.stays.2)
    (sends_reader S _ start _ _ _ _ k _ names size c.args.depth c.args.self.now.left c.args.room.now c.args.name c.args.receiver.now c.args.at (plain c.in_ok-local_at.field-0.now) _ r.method _ _ _ r.me
    (r.finds S st) r.reads f len more deep c.in_ok-local_at.ensures q.came a)
