use Rattle.std.proofs.Common.{◌∷◌, ◌∙◌, refl, sym}
use Rattle.rb_machine.specs.Control.{Then, Instead}
use Rattle.rb_walk.specs.Outcome.{value_of}
use Rattle.rb_walk.proofs.Moves.{on}
use Rattle.rb_walk.proofs.Outcomes.{given, passes}
use Rattle.rb_interp.proofs.walker.Walker.put_pair.Goals as goal

pub returns-then-is_left-clause-came : goal.returns-then-is_left-clause-came
returns-then-is_left-clause-came g c = λ depth S start k sc p a.
    let t = c.take-value.ensures in
    let y = c.ask-done in
    let v = value_of c.args.came c.args.self.now.value in
    let f = rw (c.in-Ok.ensures.value, t.value, t.stays.1, t.stays.2, t.stays.3) at y.ensures.came in
    let come = f S start (Then (Instead v) ∷ k) sc depth a in
    passes S _ start _ y.result y.new.self.value y.new.self.leave _ (Instead v) k sc _ _ (sym c.is_left.ensures ∙ c.if-is_left.true) come

pub returns-clause-came : goal.returns-clause-came
returns-clause-came g c = λ depth S start k sc p a.
    let t = c.take-value.ensures in
    let y = c.ask-done in
    let v = value_of c.args.came c.args.self.now.value in
    let f = rw (c.in-Ok.ensures.value, t.value, t.stays.1, t.stays.2, t.stays.3) at y.ensures.came in
    let come = f S start (Then (Instead v) ∷ k) sc depth a in
    let g1 = given y.result y.new.self.value y.new.self.leave (sym c.is_left.ensures ∙ c.if-is_left.false) come in
    rw (c.hand.ensures.gives, c.hand.ensures.stays.3, t.value) (on _ g1 refl)
