use Rattle.std.proofs.Common.{◌≡◌, ◌∷◌, ◌∙◌, refl, sym, rules, to_z, of_z, w64}
use Rattle.rb_model.specs.Values.{Int}
use Rattle.rb_machine.specs.Control.{Then, Instead}
use Rattle.rb_walk.proofs.Moves.{on}
use Rattle.rb_walk.proofs.Outcomes.{given, passes}
use Rattle.rb_interp.proofs.walker.Walker.write_integer.Goals as goal

pub returns-then-is_left-clause-came : goal.returns-then-is_left-clause-came
returns-then-is_left-clause-came g c = λ S start k sc d a.
    let y = c.ask-done in
    let z : to_z w64 (of_z w64 c.args.n) ≡ c.args.n = search rules in
    let f = rw z at y.ensures.came in
    let come = f S start (Then (Instead (Int c.args.n)) ∷ k) sc d a in
    passes S _ start _ y.result y.new.self.value y.new.self.leave _ (Instead (Int c.args.n)) k _ _ _ (sym c.is_left.ensures ∙ c.if-is_left.true) come

pub returns-clause-came : goal.returns-clause-came
returns-clause-came g c = λ S start k sc d a.
    let y = c.ask-done in
    let z : to_z w64 (of_z w64 c.args.n) ≡ c.args.n = search rules in
    let f = rw z at y.ensures.came in
    let come = f S start (Then (Instead (Int c.args.n)) ∷ k) sc d a in
    let g1 = given y.result y.new.self.value y.new.self.leave (sym c.is_left.ensures ∙ c.if-is_left.false) come in
    rw z (on _ g1 refl)
