use Rattle.std.proofs.Common.{◌≡◌, ◌<◌, [], refl, arith}
use Rattle.rb_model.specs.Values.{plain}
use Rattle.rb_walk.specs.Answers.{IsHeld}
use Rattle.rb_walk.proofs.Readers.{evaluates_reader, fetched_exit}
use Rattle.rb_interp.proofs.walker.Walker.sent_value.Goals as goal

pub returns-clause-came : goal.returns-clause-came
returns-clause-came g c = λ S start k names size st e f len a.
    let x = c.in-Send in
    let r = c.in_ok-reader.ensures in
    let q = c.fetch.ensures in
    let more : 2 < c.args.self.now.left = omega (arith, c.if-self-lt3.false) in
    let deep : c.args.depth < 999 = omega (arith, c.if-depth.false) in
    let none : x.args ≡ [] = c.if-not-is_empty.ensures.0 refl in
    let held : IsHeld x.receiver c.args.room.now (plain c.in_ok-local_at.field-0.now) = rw c.get.ensures at c.in_ok-local_at.ensures in
    let exit = fetched_exit c.fetch.result c.fetch.new.self.value c.fetch.new.self.leave q.over in
    rw (q.stays.2)
    (evaluates_reader S _ start _ _ _ _ k _ names size c.args.depth c.args.self.now.left c.args.room.now c.args.code.now x.field-0 x.name x.receiver x.args x.field-4 (plain c.in_ok-local_at.field-0.now) _ r.method _ _ _
    x.is none r.me (r.finds S st) r.reads f len more deep held q.came exit a)
