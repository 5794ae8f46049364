use Rattle.std.proofs.Common.{ap, refl, sym, subst, [], take, reverse, ◌+◌, ◌∙◌}
use Rattle.std.specs.List.{list_any}
use Rattle.std.proofs.lemmas.List.{take_more, take_all}
use Rattle.rb_checker.specs.Fault.{first_of}
use Rattle.rb_checker.specs.Locals.{same_local, uses_in}
use Rattle.rb_checker.specs.Twice.{params_behind, params_of, params_twice}
use Rattle.rb_checker.specs.Walked.{Knows}
use Rattle.rb_checker.proofs.ParamsMore.{params_more, first_param}
use Rattle.rb_checker.proofs.Placing.{stack_more}
use Rattle.rb_checker.proofs.params.repeated_param.Goals as goal

pub events-init : goal.events-init
events-init c = record {
  round = ap reverse c.new-round.ensures.items;
  before = λ v. ap (list_any (same_local v)) c.new-params.ensures.empty;
  first = refl;
}

pub events-preserved : goal.events-preserved
events-preserved c =
    let events = c.args.events.now in
    let i = c.events.event-index in
    let before = params_of [] (uses_in (take i events)) in
    let stands = ap reverse c.as_slice.ensures.value ∙ c.events.invariant.round in
    record {
      round = stack_more events i _ (reverse c.events.round.items) (reverse c.go_behind.new.round.items) c.events-test.true c.events.invariant.round c.in_ok-go_behind.ensures;
      before = params_more (take i events) (take (i + 1) events) _ (reverse c.as_slice.result.now) c.see_param.new.params (take_more events i _ c.events-test.true) stands
          (subst (λ us. Knows c.see_param.new.params (params_of before us)) (sym c.param_at-param.ensures) (c.in_ok-next.ensures.kept before (reverse c.as_slice.result.now) c.events.invariant.before));
      first = first_param (take i events) (take (i + 1) events) _ (reverse c.as_slice.result.now) c.events.found c.in_ok-next.next c.first_of_two-found.result
          (take_more events i _ c.events-test.true) stands c.events.invariant.first (c.in_ok-next.ensures.fault before (reverse c.as_slice.result.now) c.events.invariant.before
          ∙ ap (λ us. first_of (params_behind before us)) (sym c.param_at-param.ensures)) c.first_of_two-found.ensures;
    }

pub returns : goal.returns
returns c = c.events.invariant.first ∙ ap (λ es. first_of (params_twice (uses_in es))) (take_all c.events.event-index c.args.events.now c.events-test.false)
