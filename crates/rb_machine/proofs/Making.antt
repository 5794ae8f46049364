-- New objects.
use Rattle.std.proofs.Common.{◌≡◌, true, length, arith, refl}
use Rattle.std.specs.Prelude.{nat_eq}
use Rattle.std.proofs.lemmas.Bool.Decides.{nat_tests}
use Rattle.rb_machine.specs.Laws.{NewMakesAnObject, WithoutInitialize, NewGivesTheObject}

pub new_makes_an_object : NewMakesAnObject
new_makes_an_object S class number args at k sc d left found = rw found refl

pub without_initialize : WithoutInitialize
without_initialize S object at k sc d left none = (rw none refl, λ v vs. rw none refl)

pub new_gives_the_object : NewGivesTheObject
new_gives_the_object S object m args at k sc d left some many =
    let same : nat_eq (length args) (length m.params) ≡ true = grind (arith, nat_tests, many) in
    (rw (some, same) refl, λ v inner deep less. (refl, refl, refl))
