use Rattle.std.proofs.Common.{◌≡◌, ◌∷◌, refl}
use Rattle.rb_model.specs.Values.{To}
use Rattle.rb_model.specs.Acts.{Push}
use Rattle.rb_model.specs.Acts as reply
use Rattle.rb_machine.specs.Control.{Then, Instead}
use Rattle.rb_builtin.specs.Deeds.{thing_of}
use Rattle.rb_walk.specs.Outcome.{value_of}
use Rattle.rb_walk.proofs.Immediates.{told_value}
use Rattle.rb_walk.proofs.Moves.{on}
use Rattle.rb_walk.proofs.Objects.{asked_reply}
use Rattle.rb_interp.proofs.walker.Walker.asked_any.Goals as goal
use Rattle.rb_interp.proofs.walker.Walker.asked_any.Goals.{else-is_push-via-then-is_push+else-push_immediate, else-is_push-via-else-is_push}

pub returns-then-push_immediate-clause-came : goal.returns-then-push_immediate-clause-came
returns-then-push_immediate-clause-came g c = λ name e S start k sc p a.
    let y = c.push_immediate.ensures in
    let done = c.if-push_immediate.true in
    let held = c.args.self.now.value in
    let v = told_value _ (y.told done) in
    let gives = rw v.1 at (y.gives done) in
    let becomes = rw v.1 at (y.private done) in
    let is : value_of c.args.came held ≡ v.0 = rw v.1 at (c.immediate_of.ensures held) in
    let asked = c.is_push.ensures c.if-is_push.true c.args.self.now.context.program.now name v.0 e in
    let waits = Then (Instead (To (thing_of c.args.thing))) ∷ k in
    let put = asked_reply S _ start _ _ _ (thing_of c.args.thing) (Push v.0) reply.Done c.args.at waits sc c.args.depth c.args.self.now.left (y.there done) gives becomes (rw (is, asked) at a) in
    rw (c.give_thing.ensures.gives, c.give_thing.ensures.stays.2, c.give_thing.ensures.stays.3, y.log) (on _ put refl)

pub returns-clause-came : goal.returns-clause-came
returns-clause-came g c =
    let t = c.take-arg.ensures in
    let came = rw (t.stays.1, t.value, t.stays.2, t.stays.3) at c.asked_value.ensures.came in
    elim c.else-is_push.branch [
      | else-is_push-via-then-is_push+else-push_immediate w ↦
          let y = w.push_immediate.ensures in
          rw (w.self-is, y.log, y.kept w.if-push_immediate.false) at came
      | else-is_push-via-else-is_push w ↦ rw w.self-is at came
    ]
