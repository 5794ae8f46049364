use Rattle.std.proofs.Common.{◌∙◌, ◌∷◌, sym, subst}
use Rattle.std.proofs.lemmas.Result.{on_ok_weaker}
use Rattle.rb_model.specs.Doing.{seen}
use Rattle.rb_shared.specs.Asking.{MayMove}
use Rattle.publish_barrier.specs.Moves.{GoesOn}
use Rattle.publish_barrier.proofs.May.{held_own, may_move, no_thread}
use Rattle.publish_barrier.proofs.Meeting.{goes_taking, looked_taking}
use Rattle.publish_barrier.proofs.Naming.{same_sort}
use Rattle.publish_barrier.proofs.gathering.take.Goals as goal

pub place_thing-requires : goal.place_thing-requires
place_thing-requires g c =
    no_thread c.args.heap.now.thread (seen c.in_ok-content.content) (c.things_are_within_limits.ensures c.args.thing.id (seen c.in_ok-content.content) c.in_ok-content.ensures)

pub returns-clause-taken : goal.returns-clause-taken
returns-clause-taken g c =
    on_ok_weaker c.push.result
    (λ more.
    looked_taking c.args.heap.now c.args.gathering.now.moved c.push.new.self c.args.gathering.now.waiting.items c.place_thing.new.waiting.items c.args.thing c.place_thing.new.thing
    (seen c.in_ok-content.content) more c.in_ok-place_thing.ensures.waits c.in_ok-place_thing.ensures.thing
    (no_thread c.args.heap.now.thread (seen c.in_ok-content.content) (c.things_are_within_limits.ensures c.args.thing.id (seen c.in_ok-content.content) c.in_ok-content.ensures))
    c.in_ok-content.ensures)
    c.push.ensures.ok

pub returns-clause-goes : goal.returns-clause-goes
returns-clause-goes g c =
    let own = c.is_own_number.ensures.0 c.if-not-is_own_number.false in
    let sort = c.in_ok-agree.ensures ∙ c.sort_of.ensures ∙ sym (same_sort c.place_thing.new.thing c.in_ok-content.content c.in_ok-place_thing.ensures.thing) in
    let may =
    may_move c.args.heap.now c.args.thing.id (seen c.in_ok-content.content) (c.shapes_agree.ensures c.args.thing.id) (c.things_are_within_limits.ensures c.args.thing.id)
    c.in_ok-content.ensures in
    on_ok_weaker c.push.result
    (λ more.
    subst (λ ms. GoesOn c.args.heap.now c.args.known.now.refs c.args.gathering.now.moved (c.args.thing ∷ c.args.gathering.now.waiting.items) ms c.place_thing.new.waiting.items) (sym more)
    (goes_taking c.args.heap.now c.args.known.now.refs c.args.gathering.now.moved c.args.gathering.now.waiting.items c.place_thing.new.waiting.items c.args.thing c.place_thing.new.thing sort
    c.in_ok-place_thing.ensures.waits (held_own c.args.heap.now c.args.thing.id (seen c.in_ok-content.content) c.in_ok-content.ensures, own.0, own.1)
    (subst (MayMove c.args.heap.now.thread) (sym c.in_ok-place_thing.ensures.thing) may) c.in_ok-place_thing.ensures.addressed c.requires.may))
    c.push.ensures.ok
