use Rattle.std.proofs.Common.{refl, subst}
use Rattle.rb_model.specs.declared.call.Call.TheVariants as held
use Rattle.rb_model.specs.declared.call.End.TheVariants as held_end
use Rattle.rb_model.specs.Ends.{over}
use Rattle.rb_model.specs.Ends as ending
use Rattle.rb_model.specs.Values.{plain}
use Rattle.publish_barrier.proofs.Leaving.{leaves_private}
use Rattle.rb_thread.specs.Seats as seats
use Rattle.rb_thread.proofs.Closing.{closes_before, closes_done, closes_full, closes_memory}
use Rattle.rb_thread.proofs.Handed.{may_end_with, mine_as}
use Rattle.rb_thread.proofs.threaded.Threaded.close_value.Goals as goal

pub returns-in_default-clause-closes : goal.returns-in_default-clause-closes
returns-in_default-clause-closes g c =
    let view = g.K.Seat.view in
    closes_before (view c.args.self.now.seat) (view c.end_surely.new.self.seat) c.args.step c.args.self.now.things c.end_surely.new.self.things (plain c.args.value) (over c.end_surely.result) c.end_surely.ensures.things c.end_surely.ensures.view c.end_surely.ensures.end

pub returns-in_default-gather_value-clause-closes : goal.returns-in_default-gather_value-clause-closes
returns-in_default-gather_value-clause-closes g c =
    let view = g.K.Seat.view in
    closes_before (view c.args.self.now.seat) (view c.end_surely-in_default-gather_value.new.self.seat) c.args.step c.args.self.now.things c.end_surely-in_default-gather_value.new.self.things (plain c.args.value) (over c.end_surely-in_default-gather_value.result) c.end_surely-in_default-gather_value.ensures.things c.end_surely-in_default-gather_value.ensures.view c.end_surely-in_default-gather_value.ensures.end

pub returns-in-Err-clause-closes : goal.returns-in-Err-clause-closes
returns-in-Err-clause-closes g c =
    let view = g.K.Seat.view in
    closes_before (view c.args.self.now.seat) (view c.end_surely-in-Err.new.self.seat) c.args.step c.args.self.now.things c.end_surely-in-Err.new.self.things (plain c.args.value) (over c.end_surely-in-Err.result) c.end_surely-in-Err.ensures.things c.end_surely-in-Err.ensures.view c.end_surely-in-Err.ensures.end

pub hand_over-answer-requires-clause-may : goal.hand_over-answer-requires-clause-may
hand_over-answer-requires-clause-may g c =
    let l = c.requires.live in
    may_end_with (g.K.Seat.view c.args.self.now.seat) c.args.self.now.things c.args.self.now.known.refs c.in-Ok.moved c.in-Some.value (mine_as l) l.known l.absent c.in-Ok.ensures

pub hand_over-answer-requires-clause-private : goal.hand_over-answer-requires-clause-private
hand_over-answer-requires-clause-private g c = leaves_private c.in-Ok.ensures.leaves

pub returns-in-Done-clause-closes : goal.returns-in-Done-clause-closes
returns-in-Done-clause-closes g c =
    let view = g.K.Seat.view in
    let hands =
    subst (λ rs. seats.Hands (view c.args.self.now.seat) c.args.step (held.End (held_end.Value c.in-Some.value)) c.in-Ok.moved c.args.self.now.things rs c.hand_over-answer.result (view c.hand_over-answer.new.seat) c.hand_over-answer.new.things
    c.hand_over-answer.new.known.refs) c.reserve.ensures.refs c.hand_over-answer.ensures.hands in
    closes_done (view c.args.self.now.seat) (view c.hand_over-answer.new.seat) c.args.step c.args.self.now.things c.args.self.now.known.refs (plain c.args.value) c.in-Some.value c.in-Ok.moved c.hand_over-answer.result c.hand_over-answer.new.things
    c.hand_over-answer.new.known.refs c.in-Some.ensures.same.0 c.in-Ok.ensures.leaves hands c.in-Done.field-0 (over c.end_in.result) c.in-Done.is (c.end_in.ensures (ending.Value (plain c.in-Some.value)) refl)

pub returns-in-Full-clause-closes : goal.returns-in-Full-clause-closes
returns-in-Full-clause-closes g c =
    let view = g.K.Seat.view in
    let hands =
    subst (λ rs. seats.Hands (view c.args.self.now.seat) c.args.step (held.End (held_end.Value c.in-Some.value)) c.in-Ok.moved c.args.self.now.things rs c.hand_over-answer.result (view c.hand_over-answer.new.seat) c.hand_over-answer.new.things
    c.hand_over-answer.new.known.refs) c.reserve.ensures.refs c.hand_over-answer.ensures.hands in
    closes_full (view c.args.self.now.seat) (view c.hand_over-answer.new.seat) c.args.step c.args.self.now.things c.args.self.now.known.refs (plain c.args.value) c.in-Some.value c.in-Ok.moved c.hand_over-answer.result c.hand_over-answer.new.things
    c.hand_over-answer.new.known.refs c.in-Some.ensures.same.0 c.in-Ok.ensures.leaves hands c.in-Full.used c.in-Full.asked (view c.end_surely-in-Full.new.self.seat) c.end_surely-in-Full.new.self.things (over c.end_surely-in-Full.result) c.in-Full.is
    c.end_surely-in-Full.ensures.things c.end_surely-in-Full.ensures.view c.end_surely-in-Full.ensures.end

pub returns-in-Memory-clause-closes : goal.returns-in-Memory-clause-closes
returns-in-Memory-clause-closes g c =
    let view = g.K.Seat.view in
    let hands =
    subst (λ rs. seats.Hands (view c.args.self.now.seat) c.args.step (held.End (held_end.Value c.in-Some.value)) c.in-Ok.moved c.args.self.now.things rs c.hand_over-answer.result (view c.hand_over-answer.new.seat) c.hand_over-answer.new.things
    c.hand_over-answer.new.known.refs) c.reserve.ensures.refs c.hand_over-answer.ensures.hands in
    closes_memory (view c.args.self.now.seat) (view c.hand_over-answer.new.seat) c.args.step c.args.self.now.things c.args.self.now.known.refs (plain c.args.value) c.in-Some.value c.in-Ok.moved c.hand_over-answer.result c.hand_over-answer.new.things
    c.hand_over-answer.new.known.refs c.in-Some.ensures.same.0 c.in-Ok.ensures.leaves hands (view c.end_surely-in-Memory.new.self.seat) c.end_surely-in-Memory.new.self.things (over c.end_surely-in-Memory.result) c.in-Memory.is
    c.end_surely-in-Memory.ensures.things c.end_surely-in-Memory.ensures.view c.end_surely-in-Memory.ensures.end
