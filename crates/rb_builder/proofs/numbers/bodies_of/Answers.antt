use Rattle.std.proofs.Common.{take, ap, sym, subst, ◌+◌, ◌∙◌}
use Rattle.std.specs.Prelude.{nat_eq, position}
use Rattle.std.proofs.lemmas.List.{take_more, take_all}
use Rattle.rb_builder.specs.Numbered.{number_at, number_or, AreNumbered}
use Rattle.rb_builder.proofs.Numbering.{places_more}
use Rattle.rb_builder.proofs.numbers.bodies_of.Goals as goal

pub places-preserved : goal.places-preserved
places-preserved c =
    places_more c.args.places.now c.places.number c.places.bodies c.add_body.new.bodies c.places-test.true c.places.invariant c.in_ok-add_body.ensures.ok
