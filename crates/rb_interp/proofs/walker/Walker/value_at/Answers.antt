use Rattle.rb_walk.specs.Answers.{steps_of}
use Rattle.rb_walk.proofs.Immediates.{element_told}
use Rattle.rb_interp.proofs.walker.Walker.value_at.Goals as goal

pub returns-in-Some : goal.returns-in-Some
returns-in-Some g c =
    element_told _ c.args.method c.args.left.now (steps_of c.args.is_row) c.args.right.now (steps_of c.args.is_over) c.args.room.now c.in-Some.hash _
    c.in-Some.ensures.given c.in-Some.ensures.unnamed c.value_of_key.ensures
