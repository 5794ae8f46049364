use Rattle.std.proofs.Common.{◌≡◌, ap, rules, to_z, of_z, w64}
use Rattle.rb_model.specs.Values.{Int}
use Rattle.rb_walk.specs.Outcome.{value_of}
use Rattle.rb_interp.proofs.walker.Walker.write_field.Goals as goal

pub returns-in_default-clause-came : goal.returns-in_default-clause-came
returns-in_default-clause-came g c = λ S start k sc d a.
    rw (c.raise.ensures.gives, c.raise.ensures.stays.3) (rw c.in_default.is at a)

pub returns-in-Int-clause-came : goal.returns-in-Int-clause-came
returns-in-Int-clause-came g c = λ S start k sc d a.
    let z : to_z w64 (of_z w64 c.in-Int.n) ≡ c.in-Int.n = search rules in
    let v : value_of c.args.came c.args.self.now.value ≡ Int c.in-Int.n = ap (λ r. value_of r c.args.self.now.value) c.in-Int.is in
    let f = rw z at c.write_integer.ensures.came in
    f S start k sc d (rw (c.in-Some.is, v) at a)
