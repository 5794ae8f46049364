use Rattle.std.proofs.Common.{ap, take, reverse, ◌+◌, ◌∙◌}
use Rattle.std.proofs.lemmas.List.{take_more, take_all}
use Rattle.rb_checker.specs.Locals.{uses_in}
use Rattle.rb_checker.specs.Scoped.{made_in}
use Rattle.rb_checker.proofs.Makes.{made_next}
use Rattle.rb_checker.proofs.UsesMore.{known_by, none_walked, walked_more, uses_more}
use Rattle.rb_checker.proofs.naming.locals_made.Goals as goal

pub events-init : goal.events-init
events-init c = record {
  walked = none_walked c.new-walk.result c.new-walk.ensures.round c.new-walk.ensures.known;
  made = c.new-made.ensures.items;
}

pub events-preserved : goal.events-preserved
events-preserved c =
    let events = c.args.events.now in
    let i = c.events.event-index in
    let walk = c.events.walk in
    let w = c.events.invariant.walked in
    let used = c.used_at-used.result in
    let round = reverse walk.round.items in
    let uses = c.used_at-used.ensures (known_by (take i events)) w.known in
    let more = take_more events i _ c.events-test.true in
    record {
      walked = walked_more walk c.go_on.new.self (take i events) (take (i + 1) events) _ used more w uses c.in_ok-go_on.ensures.round c.in_ok-go_on.ensures.known;
      made = made_next (uses_in (take i events)) _ (uses_in (take (i + 1) events)) c.events.made.items c.add_made.new.made.items
          (uses_more walk (take i events) (take (i + 1) events) _ used more w uses) c.events.invariant.made (c.in_ok-add_made.ensures round _);
    }

pub returns : goal.returns
returns c = c.events.invariant.made ∙ ap (λ es. made_in (uses_in es)) (take_all c.events.event-index c.args.events.now c.events-test.false)
