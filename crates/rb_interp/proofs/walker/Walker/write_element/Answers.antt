use Rattle.std.proofs.Common.{◌≡◌, [], ◌∷◌, ◌∙◌, map, refl, sym, ap}
use Rattle.std.specs.Prelude.{codes}
use Rattle.rb_model.specs.Values.{Value as Val, plain}
use Rattle.rb_machine.specs.Control.{Then, Instead}
use Rattle.rb_walk.specs.Outcome.{value_of}
use Rattle.rb_walk.proofs.Collections.{writes_so}
use Rattle.rb_walk.proofs.Moves.{on, same}
use Rattle.rb_walk.proofs.Outcomes.{given, passes}
use Rattle.rb_interp.proofs.walker.Walker.write_element.Goals as goal

pub returns-in-Some-clause-came : goal.returns-in-Some-clause-came
returns-in-Some-clause-came g c = λ S start k sc p a.
    let v = value_of c.args.came c.args.self.now.value in
    let written = same a (writes_so S c.args.self.now.context.program.now (plain c.args.index ∷ v ∷ []) (plain c.args.receiver.now) (plain c.args.index) v c.args.at (Then (Instead v) ∷ k) sc _ _ p refl) in
    c.stored.ensures.came (codes "[]=") refl S start k sc p (rw c.in-Some.ensures.some at written)

pub returns-then-is_left-clause-came : goal.returns-then-is_left-clause-came
returns-then-is_left-clause-came g c = λ S start k sc p a.
    let v = value_of c.args.came c.args.self.now.value in
    let t = c.take-value.ensures in
    let y = c.call_any-done in
    let same_value : plain c.in-Ok.copy ≡ v = c.in-Ok.ensures.value ∙ t.value in
    let args = ap (map plain) c.as_slice.ensures ∙ ap (λ (w : Val). plain c.args.index ∷ w ∷ []) same_value in
    let f = rw (t.stays.1, t.stays.2, t.stays.3) at y.ensures.came in
    let come = f (codes "[]=") refl S start (Then (Instead v) ∷ k) sc p (same a (writes_so S _ _ (plain c.args.receiver.now) (plain c.args.index) v c.args.at (Then (Instead v) ∷ k) sc _ _ p args)) in
    passes S _ start _ y.result y.new.self.value y.new.self.leave _ (Instead v) k sc _ _ (sym c.is_left.ensures ∙ c.if-is_left.true) come

pub returns-clause-came : goal.returns-clause-came
returns-clause-came g c = λ S start k sc p a.
    let v = value_of c.args.came c.args.self.now.value in
    let t = c.take-value.ensures in
    let y = c.call_any-done in
    let same_value : plain c.in-Ok.copy ≡ v = c.in-Ok.ensures.value ∙ t.value in
    let args = ap (map plain) c.as_slice.ensures ∙ ap (λ (w : Val). plain c.args.index ∷ w ∷ []) same_value in
    let f = rw (t.stays.1, t.stays.2, t.stays.3) at y.ensures.came in
    let come = f (codes "[]=") refl S start (Then (Instead v) ∷ k) sc p (same a (writes_so S _ _ (plain c.args.receiver.now) (plain c.args.index) v c.args.at (Then (Instead v) ∷ k) sc _ _ p args)) in
    let g1 = given y.result y.new.self.value y.new.self.leave (sym c.is_left.ensures ∙ c.if-is_left.false) come in
    rw (c.give.ensures.gives, c.give.ensures.stays.3, c.give.ensures.stays.2, t.value) (on _ g1 refl)
