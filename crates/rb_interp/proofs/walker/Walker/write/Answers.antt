use Rattle.std.proofs.Common.{◌≡◌, ap, refl, to_z, of_z, w64, rules}
use Rattle.rb_model.specs.declared.value.Value.TheVariants as held
use Rattle.rb_walk.specs.Outcome.{value_of}
use Rattle.rb_walk.specs.Answers.{wrote, wanted}
use Rattle.rb_interp.proofs.walker.Walker.write.Goals as goal

pub returns-then-slot-room-clause-written : goal.returns-then-slot-room-clause-written
returns-then-slot-room-clause-written g c = rw c.over.ensures.gives (wanted refl)

pub returns-in-Int-clause-written : goal.returns-in-Int-clause-written
returns-in-Int-clause-written g c =
    let z : to_z w64 (of_z w64 c.in-Int.n) ≡ c.in-Int.n = search rules in
    let p = rw z at c.put.ensures in
    rw (ap (λ r. value_of r c.args.self.now.value) c.in-Int.is) (wrote (held.Int c.in-Int.n) refl p)
