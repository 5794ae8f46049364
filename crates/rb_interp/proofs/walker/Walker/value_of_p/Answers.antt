use Rattle.std.proofs.Common.{◌∷◌, ap, refl}
use Rattle.rb_model.specs.Values.{plain}
use Rattle.rb_machine.specs.Control.{Step, On, Give, Then, Instead}
use Rattle.rb_walk.specs.Outcome.{Gave}
use Rattle.rb_walk.proofs.Calls.{or_memory}
use Rattle.rb_walk.proofs.Moves.{on, same}
use Rattle.rb_walk.proofs.Collections.{value_of_none, value_of_one, value_of_many}
use Rattle.rb_interp.proofs.walker.Walker.value_of_p.Goals as goal

pub returns-in-empty-clause-came : goal.returns-in-empty-clause-came
returns-in-empty-clause-came g c = λ shown depth S start k sc p a.
    let step = value_of_none S c.args.values.now c.in-empty.len_below in
    on _ (same a (ap (λ (s : Step). On (Give shown) (Then s ∷ k) sc depth c.args.self.now.left) step)) refl

pub returns-in-len1-clause-came : goal.returns-in-len1-clause-came
returns-in-len1-clause-came g c = λ shown depth S start k sc p a.
    let v = plain c.value-item.result in
    let step = value_of_one S c.args.values.now c.value-item.result c.in-len1.len_at_least c.in-len1.len_below c.value-item.is in
    let b = same a (ap (λ (s : Step). On (Give shown) (Then s ∷ k) sc depth c.args.self.now.left) step) in
    rw c.read_shared.ensures.stays.3
    (or_memory S _ start _ _ k sc depth _ (Gave v) _ (On (Give shown) (Then (Instead v) ∷ k) sc depth c.args.self.now.left) c.read_shared.ensures.gives b refl (on _ b refl))

pub returns-in_default-clause-came : goal.returns-in_default-clause-came
returns-in_default-clause-came g c = λ shown depth S start k sc p a.
    let step = value_of_many S c.args.values.now c.in_default.len_at_least in
    c.list.ensures.came depth S start k sc p (on _ (same a (ap (λ (s : Step). On (Give shown) (Then s ∷ k) sc depth c.args.self.now.left) step)) refl)
