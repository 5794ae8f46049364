use Rattle.std.proofs.Common.{◌≡◌, to_z, of_z, w64, rules}
use Rattle.rb_interp.proofs.walker.Walker.asked_with.Goals as goal

pub returns-in-Int-clause-came : goal.returns-in-Int-clause-came
returns-in-Int-clause-came g c =
    let z : to_z w64 (of_z w64 c.in-Int.index) ≡ c.in-Int.index = search rules in
    rw c.in-Int.is (rw z at c.asked_integer.ensures.came)
