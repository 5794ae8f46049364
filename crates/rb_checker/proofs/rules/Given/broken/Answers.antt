use Rattle.std.proofs.Common.{reverse, ap, ◌∙◌}
use Rattle.std.proofs.lemmas.List.{take_all}
use Rattle.rb_checker.specs.declared.event.Event.{Event}
use Rattle.rb_checker.specs.Around.{Open}
use Rattle.rb_checker.specs.Fault.{first_of}
use Rattle.rb_checker.specs.Rules as rule
use Rattle.rb_checker.proofs.Placing.{stack_more, first_at}
use Rattle.rb_checker.proofs.rules.Given.broken.Goals as goal

pub events-preserved : goal.events-preserved
events-preserved c =
    let events = c.args.events.now in
    let i = c.events.event-index in (
      stack_more events i _ (reverse c.events.round.items) (reverse c.go_behind.new.round.items) c.events-test.true c.events.invariant.0 c.in_ok-go_behind.ensures,
      λ functions classes o f k w.
          first_at (λ (p : Open × Event). rule.broken_by c.args.self.names.now functions classes o p.0 p.1.sight p.1.at) events i _ (reverse c.as_slice.result.now)
          c.events.found c.broken_by.result c.first_of_two-found.result c.events-test.true (ap reverse c.as_slice.ensures.value ∙ c.events.invariant.0) (c.events.invariant.1 functions classes o f k w)
          (c.broken_by.ensures functions classes o f k w) c.first_of_two-found.ensures,
    )

pub returns : goal.returns
returns c = λ functions classes o f k w.
    c.events.invariant.1 functions classes o f k w
    ∙ ap (λ es. first_of (rule.broken c.args.self.names.now functions classes o es)) (take_all c.events.event-index c.args.events.now c.events-test.false)
