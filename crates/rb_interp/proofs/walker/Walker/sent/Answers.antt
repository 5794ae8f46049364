use Rattle.std.proofs.Common.{◌<◌, [], ◌∷◌, None, Some, refl, sym, arith}
use Rattle.rb_model.specs.Values.{plain}
use Rattle.rb_machine.specs.Scopes.{text_of}
use Rattle.rb_machine.specs.Control.{Then, ReceiverOf}
use Rattle.rb_walk.specs.Carries.{me_of}
use Rattle.rb_walk.proofs.Elements.{calls_builtin}
use Rattle.rb_walk.proofs.Moves.{on}
use Rattle.rb_walk.proofs.Quick.{calls_held}
use Rattle.rb_interp.proofs.walker.Walker.sent.Goals as goal

pub returns-clause-came : goal.returns-clause-came
returns-clause-came g c = λ S start k names size st e m f len a.
    let o = c.call_held.ensures in
    let given = rw (sym e) at (o.gives (text_of S c.args.name) m) in
    let more : 0 < c.args.self.now.left = omega (arith, c.if-self-lt2.false) in
    let deep : c.args.depth < 1000 = omega (arith, c.if-depth-ge-MAX_DEPTH.false) in
    rw (o.stays.2, o.stays.3)
    (calls_held S _ start _ _ k _ names size c.args.depth c.args.self.now.left c.args.room.now c.args.name c.args.receiver.now c.args.at (plain c.in_ok-held.held.now) _
    (c.in_ok-held.ensures.alone S st) f len more deep c.in_ok-held.ensures.held given a)

pub returns-in-Some-clause-came : goal.returns-in-Some-clause-came
returns-in-Some-clause-came g c = λ S start k names size st e m f len a.
    let o = c.asked_alone.ensures in
    let to = me_of (Some c.in-Some.thing) in
    let waits = Then (ReceiverOf (text_of S c.args.name) [] None c.args.at) ∷ k in
    let more : 0 < c.args.self.now.left = omega (arith, c.if-self-lt2.false) in
    let deep : c.args.depth < 1000 = omega (arith, c.if-depth-ge-MAX_DEPTH.false) in
    let e1 = c.in-Some.ensures.held S _ names size c.args.depth c.args.self.now.left start _ _ waits (me_of c.args.self.now.context.me) f len more deep a in
    let none = c.in-Some.ensures.alone c.args.self.now.context.script.now c.args.name S st in
    (calls_builtin S _ start _ _ _ _ _ _ _ _ _ _ c.args.self.now.context.program.now c.args.method to (text_of S c.args.name) [] c.args.at none m e o.came (on _ (on _ e1 refl) refl))
