use Rattle.std.proofs.Common.{ap, refl, sym, [], take, ◌+◌, ◌∙◌}
use Rattle.std.specs.List.{flat_map}
use Rattle.std.proofs.lemmas.List.{take_more, take_all}
use Rattle.rb_checker.specs.Around.{placed}
use Rattle.rb_checker.specs.Fault.{first_of}
use Rattle.rb_checker.specs.Locals.{uses_in}
use Rattle.rb_checker.specs.Settled.{locals_in}
use Rattle.rb_checker.specs.Settling.{unsettled_at}
use Rattle.rb_checker.proofs.Settles.{knows_noted, unsettled_is}
use Rattle.rb_checker.proofs.Threadless.{none_unsettled}
use Rattle.rb_checker.proofs.UsesMore.{known_by, none_walked, walked_more, first_used}
use Rattle.rb_checker.proofs.unsettled.find_unsettled.Goals as goal

pub events-init : goal.events-init
events-init c = record {
  walked = none_walked c.new-walk.result c.new-walk.ensures.round c.new-walk.ensures.known;
  first = refl;
}

pub events-preserved : goal.events-preserved
events-preserved c =
    let events = c.args.events.now in
    let i = c.events.event-index in
    let walk = c.events.walk in
    let w = c.events.invariant.walked in
    let used = c.used_at-used.result in
    let noted = c.in_ok-noted.noted in
    let uses = c.used_at-used.ensures (known_by (take i events)) w.known in
    record {
      walked = walked_more walk c.go_on.new.self (take i events) (take (i + 1) events) _ used (take_more events i _ c.events-test.true) w uses c.in_ok-go_on.ensures.round c.in_ok-go_on.ensures.known;
      first = first_used (unsettled_at noted (locals_in (uses_in events))) walk c.as_slice.result.now (take i events) (take (i + 1) events) _ used c.events.found c.unsettled_use-next.result
          c.first_of_two-found.result (take_more events i _ c.events-test.true) c.as_slice.ensures.value w uses c.events.invariant.first
          (c.unsettled_use-next.ensures (locals_in (uses_in events)) (knows_noted noted (placed [] events) c.in_ok-noted.ensures)) c.first_of_two-found.ensures;
    }

pub returns : goal.returns
returns c =
    let events = c.args.events.now in
    let noted = c.in_ok-noted.noted in
    c.events.invariant.first ∙ ap (λ es. first_of (flat_map (unsettled_at noted (locals_in (uses_in events))) (uses_in es))) (take_all c.events.event-index events c.events-test.false)
    ∙ ap first_of (unsettled_is noted (placed [] events) c.in_ok-noted.ensures (uses_in events))

pub returns-then-not-starts_thread : goal.returns-then-not-starts_thread
returns-then-not-starts_thread c = ap first_of (sym (none_unsettled c.args.events.now (sym c.starts_thread.ensures ∙ c.if-not-starts_thread.true)))
