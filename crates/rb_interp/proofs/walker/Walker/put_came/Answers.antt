use Rattle.std.proofs.Common.{◌≡◌, ◌∷◌, to_z, of_z, w64, rules, refl, ap}
use Rattle.rb_model.specs.Acts.{Put}
use Rattle.rb_model.specs.Acts as reply
use Rattle.rb_machine.specs.Call.{ask}
use Rattle.rb_machine.specs.Control.{Then, Instead}
use Rattle.rb_builtin.specs.Deeds.{thing_of}
use Rattle.rb_walk.specs.Outcome.{value_of}
use Rattle.rb_walk.proofs.Immediates.{told_value}
use Rattle.rb_walk.proofs.Moves.{on, same}
use Rattle.rb_walk.proofs.Objects.{asked_reply}
use Rattle.rb_walk.proofs.Outcomes.{gave}
use Rattle.rb_interp.proofs.walker.Walker.put_came.Goals as goal

pub returns-then-put_immediate-clause-came : goal.returns-then-put_immediate-clause-came
returns-then-put_immediate-clause-came g c =
    let z : to_z w64 (of_z w64 c.args.index) ≡ c.args.index = search rules in
    λ depth S start k sc p a.
    let y = c.put_immediate.ensures in
    let done = c.if-put_immediate.true in
    let held = c.args.self.now.value in
    let v = told_value _ (y.told done) in
    let gives = rw z at (rw v.1 at (y.gives done)) in
    let becomes = rw z at (rw v.1 at (y.private done)) in
    let is : value_of c.args.came held ≡ v.0 = rw v.1 at (c.immediate_of.ensures held) in
    let waits = Then (Instead (value_of c.args.came held)) ∷ k in
    let put = asked_reply S _ start _ _ _ (thing_of c.args.array) (Put c.args.index v.0) reply.Done c.args.at waits sc depth c.args.self.now.left (y.there done) gives becomes (same a (ap (λ w. ask (thing_of c.args.array) (Put c.args.index w) c.args.at waits sc depth c.args.self.now.left) is)) in
    rw (y.log, gave c.args.came held c.args.self.now.leave c.requires.came) (on _ put refl)

pub returns-clause-came : goal.returns-clause-came
returns-clause-came g c =
    let z : to_z w64 (of_z w64 c.args.index) ≡ c.args.index = search rules in
    let y = c.put_immediate.ensures in
    let t = c.take-value.ensures in
    rw (z, t.stays.1, t.stays.2, t.stays.3, t.value, y.log, y.kept c.if-put_immediate.false) at c.put_own.ensures.came
