use Rattle.std.proofs.Common.{◌≡◌, to_z, of_z, w64, rules}
use Rattle.rb_model.specs.Acts.{At}
use Rattle.rb_model.specs.declared.act.Reply.TheVariants as answered
use Rattle.rb_walk.proofs.Objects.{asked}
use Rattle.rb_interp.proofs.walker.Walker.element_apart.Goals as goal

pub returns-in-Some-clause-came : goal.returns-in-Some-clause-came
returns-in-Some-clause-came g c =
    let z : to_z w64 (of_z w64 c.args.index) ≡ c.args.index = search rules in
    λ S start k sc d a.
    let e = c.in-Some.ensures in
    let value = rw z at e.value in
    let private = rw z at e.private in
    let come = asked S _ start _ _ _ (record { sort = c.args.array.sort; id = c.args.array.id }) (At c.args.index) (answered.Value c.in-Some.value) c.args.at k sc d _ e.held value private a in
    rw (c.hand.ensures.gives, c.hand.ensures.stays.3) come

pub returns-in-None-clause-came : goal.returns-in-None-clause-came
returns-in-None-clause-came g c =
    let z : to_z w64 (of_z w64 c.args.index) ≡ c.args.index = search rules in
    rw z at c.ask_apart.ensures.came
