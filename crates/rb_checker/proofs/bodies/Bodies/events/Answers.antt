use Rattle.std.proofs.Common.{◌∙◌, ap, refl, ◌++◌, []}
use Rattle.rb_checker.specs.Events.{params_of, events_of_all}
use Rattle.rb_checker.proofs.Joining.{twice}
use Rattle.rb_checker.proofs.bodies.Bodies.events.Goals as goal

pub returns : goal.returns
returns c = λ b tells.
    twice [] (params_of c.args.params.now) (events_of_all b c.args.body.now) (c.in_ok-add_params.ensures ∙ ap (λ l. l ++ params_of c.args.params.now) c.new-events.ensures.items) (c.in_ok-add_all.ensures b tells) refl
