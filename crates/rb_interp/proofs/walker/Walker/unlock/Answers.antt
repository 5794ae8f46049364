use Rattle.std.proofs.Common.{◌∷◌, refl}
use Rattle.rb_model.specs.Values.{plain}
use Rattle.rb_machine.specs.Control.{Then, Instead}
use Rattle.rb_walk.proofs.Moves.{on}
use Rattle.rb_walk.proofs.Outcomes.{passes}
use Rattle.rb_interp.proofs.walker.Walker.unlock.Goals as goal

pub returns-in-Ok-clause-came : goal.returns-in-Ok-clause-came
returns-in-Ok-clause-came g c = λ S start k sc d a.
    let y = c.in-Ok.ensures in
    let step = Instead (plain c.args.value) in
    rw (c.give.ensures.gives, c.give.ensures.stays.3) (on _ (y.came S start (Then step ∷ k) sc d a) refl)
