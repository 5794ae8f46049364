use Rattle.std.proofs.Common.{◌≡◌, ◌∷◌, ◌∙◌, to_z, of_z, w64, rules, refl, sym}
use Rattle.rb_model.specs.Values.{plain}
use Rattle.rb_machine.specs.Control.{Then, Instead}
use Rattle.rb_walk.proofs.Moves.{on}
use Rattle.rb_walk.proofs.Outcomes.{given, passes}
use Rattle.rb_interp.proofs.walker.Walker.put.Goals as goal

pub returns-then-is_left-clause-came : goal.returns-then-is_left-clause-came
returns-then-is_left-clause-came g c =
    let z : to_z w64 (of_z w64 c.args.index) ≡ c.args.index = search rules in
    λ depth S start k sc p a.
    let y = c.ask-came in
    let v = plain c.args.value.now in
    let f = rw (z, c.in-Ok-share.ensures.value) at y.ensures.came in
    let come = f S start (Then (Instead v) ∷ k) sc depth a in
    (passes S _ start _ y.result y.new.self.value y.new.self.leave _ (Instead v) k sc _ _ (sym c.is_left.ensures ∙ c.if-is_left.true) come)

pub returns-clause-came : goal.returns-clause-came
returns-clause-came g c =
    let z : to_z w64 (of_z w64 c.args.index) ≡ c.args.index = search rules in
    λ depth S start k sc p a.
    let y = c.ask-came in
    let v = plain c.args.value.now in
    let f = rw (z, c.in-Ok-share.ensures.value) at y.ensures.came in
    let come = f S start (Then (Instead v) ∷ k) sc depth a in
    let g1 = given y.result y.new.self.value y.new.self.leave (sym c.is_left.ensures ∙ c.if-is_left.false) come in
    rw (c.hand.ensures.gives, c.hand.ensures.stays.3, c.in-Ok.ensures.value) (on _ g1 refl)
