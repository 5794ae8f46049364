use Rattle.std.proofs.Common.{subst, [], take, ◌+◌, arith}
use Rattle.std.proofs.lemmas.List.{take_more, take_all}
use Rattle.rb_checker.specs.Around.{placed}
use Rattle.rb_checker.specs.Assigned.{IsNoted}
use Rattle.rb_checker.proofs.Noting.{noted_at}
use Rattle.rb_checker.proofs.UsesMore.{known_by, none_walked, walked_more}
use Rattle.rb_checker.proofs.settling.Assignments.new.Goals as goal

pub events-init : goal.events-init
events-init c = record {
  walked = none_walked c.new-walk.result c.new-walk.ensures.round c.new-walk.ensures.known;
  noted = c.none-noted.ensures;
  counted = omega (arith, c.none-noted.ensures.uses);
}

pub note-requires : goal.note-requires
note-requires c = omega arith

pub events-preserved : goal.events-preserved
events-preserved c =
    let events = c.args.events.now in
    let i = c.events.event-index in
    let walk = c.events.walk in
    let w = c.events.invariant.walked in
    let used = c.used_at-used.result in
    let uses = c.used_at-used.ensures (known_by (take i events)) w.known in
    record {
      walked = walked_more walk c.go_on.new.self (take i events) (take (i + 1) events) _ used (take_more events i _ c.events-test.true) w uses c.in_ok-go_on.ensures.round c.in_ok-go_on.ensures.known;
      noted = noted_at c.events.noted c.note.new.self walk c.as_slice.result.now (take i events) (take (i + 1) events) _ used (take_more events i _ c.events-test.true) c.as_slice.ensures.value w
          c.events.invariant.noted uses c.in_ok-note.ensures.uses c.in_ok-note.ensures.known c.in_ok-note.ensures.ends c.in_ok-note.ensures.starts c.in_ok-note.ensures.held;
      counted = omega (arith, c.in_ok-note.ensures.counted);
    }

pub returns : goal.returns
returns c = subst (λ es. IsNoted c.events.noted (placed [] es)) (take_all c.events.event-index c.args.events.now c.events-test.false) c.events.invariant.noted
