use Rattle.std.proofs.Common.{◌≡◌, ◌∷◌, ◌∙◌, refl}
use mathlib.Core.Logic.{inl, inr}
use Rattle.rb_model.specs.Values.{plain}
use Rattle.rb_machine.specs.Control.{Then, Instead}
use Rattle.rb_walk.specs.Outcome.{value_of}
use Rattle.rb_walk.proofs.Arguments.{over_left}
use Rattle.rb_walk.proofs.Moves.{on}
use Rattle.rb_walk.proofs.Outcomes.{passes}
use Rattle.rb_interp.proofs.walker.Walker.write_value.Goals as goal

pub returns-in_default-clause-came : goal.returns-in_default-clause-came
returns-in_default-clause-came g c = λ S start k sc d a.
    rw (c.over.ensures.gives, c.over.ensures.stays.3, c.take-value.ensures.stays.3) (_, a, refl)

pub returns-in_default-clause-settled : goal.returns-in_default-clause-settled
returns-in_default-clause-settled g c = inr (_, c.over.ensures.gives)

pub returns-in-Err-clause-came : goal.returns-in-Err-clause-came
returns-in-Err-clause-came g c = λ S start k sc d a.
    let v = value_of c.args.came c.args.self.now.value in
    let t = c.take-value.ensures in
    let y = c.fetch in
    let same_value : plain c.in-Ok.copy ≡ v = c.in-Ok.ensures.value ∙ t.value in
    let f = rw (t.stays.1, t.stays.2, t.stays.3, same_value, c.in-Err.is) at y.ensures.came in
    let over = rw c.in-Err.is at y.ensures.over in
    passes S _ start _ c.in-Err.came y.new.self.value y.new.self.leave _ (Instead v) k _ _ _ (over_left c.in-Err.came y.new.self.value y.new.self.leave over.0 over.1) (f S start (Then (Instead v) ∷ k) sc d a)

pub returns-in-Err-clause-settled : goal.returns-in-Err-clause-settled
returns-in-Err-clause-settled g c = inr (rw c.in-Err.is at c.fetch.ensures.over)

pub returns-in-Ok-fetch-clause-came : goal.returns-in-Ok-fetch-clause-came
returns-in-Ok-fetch-clause-came g c = λ S start k sc d a.
    let v = value_of c.args.came c.args.self.now.value in
    let t = c.take-value.ensures in
    let y = c.fetch in
    let same_value : plain c.in-Ok.copy ≡ v = c.in-Ok.ensures.value ∙ t.value in
    let f = rw (t.stays.1, t.stays.2, t.stays.3, same_value, c.in-Ok-fetch.is) at y.ensures.came in
    rw (c.give.ensures.gives, c.give.ensures.stays.3, t.value) (on _ (f S start (Then (Instead v) ∷ k) sc d a) refl)

pub returns-in-Ok-fetch-clause-settled : goal.returns-in-Ok-fetch-clause-settled
returns-in-Ok-fetch-clause-settled g c = inl (rw c.take-value.ensures.value at c.give.ensures.gives)
