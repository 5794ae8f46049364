use Rattle.std.proofs.Common.{◌≡◌, ◌∷◌, ◌∙◌, map, to_z, of_z, w64, rules, refl, sym}
use Rattle.rb_model.specs.Values.{plain}
use Rattle.rb_machine.specs.Control.{Then, Instead}
use Rattle.rb_machine.specs.Call.{last_value}
use Rattle.rb_walk.proofs.Calls.{left_answered}
use Rattle.rb_walk.proofs.Moves.{on}
use Rattle.rb_walk.proofs.Outcomes.{given, passes}
use Rattle.rb_interp.proofs.walker.Walker.store_builtin.Goals as goal

pub returns-in_default-last_of-clause-came : goal.returns-in_default-last_of-clause-came
returns-in_default-last_of-clause-came g c = λ name e S start k sc p a.
    rw (c.over.ensures.gives, c.over.ensures.stays.3, c.over.ensures.stays.2) (_, a, left_answered S _ c.args.at _ sc _ _)

pub returns-then-is_left-clause-came : goal.returns-then-is_left-clause-came
returns-then-is_left-clause-came g c = λ name e S start k sc p a.
    let y = c.call_any-came in
    let step = Instead (last_value S (map plain c.args.args.now)) in
    let come = y.ensures.came name e S start (Then step ∷ k) sc p a in
    (passes S _ start _ y.result y.new.self.value y.new.self.leave _ step k sc _ _ (sym c.is_left.ensures ∙ c.if-is_left.true) come)

pub returns-clause-came : goal.returns-clause-came
returns-clause-came g c = λ name e S start k sc p a.
    let y = c.call_any-came in
    let step = Instead (last_value S (map plain c.args.args.now)) in
    let come = y.ensures.came name e S start (Then step ∷ k) sc p a in
    let g1 = given y.result y.new.self.value y.new.self.leave (sym c.is_left.ensures ∙ c.if-is_left.false) come in
    rw (c.give.ensures.gives, c.give.ensures.stays.3, c.give.ensures.stays.2, c.in-Ok.ensures S) (on _ g1 refl)

pub returns-in-Some-clause-came : goal.returns-in-Some-clause-came
returns-in-Some-clause-came g c =
    let z : to_z w64 (of_z w64 c.in-Some.index) ≡ c.in-Some.index = search rules in
    let puts = rw z at c.put.ensures.came in
    λ name e S start k sc p a.
    let q = c.in-Some.ensures in
    let b = rw q.args at a in
    let asked = rw (q.asked c.args.self.now.context.program.now name e) at b in
    rw c.put.ensures.stays.2 (puts c.args.depth S start k sc p asked)
