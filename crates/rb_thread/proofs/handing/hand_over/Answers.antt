use Rattle.std.proofs.Common.{◌∙◌, ◌≡◌, ◌≤◌, true, sym, subst}
use Rattle.rb_thread.specs.Asking.{is_done as done}
use Rattle.publish_barrier.specs.Leaving.{ArePrivate}
use Rattle.rb_thread.proofs.Handed.{hands_done, hands_not, same_items, same_length}
use Rattle.rb_thread.proofs.handing.hand_over.Goals as goal

pub returns-then-not-is_done-clause-hands : goal.returns-then-not-is_done-clause-hands
returns-then-not-is_done-clause-hands g c =
    let view = g.K.Seat.view in
    hands_not (view c.args.seat.now) (view c.hand-answer.new.self) c.args.step c.args.call.now c.args.moved c.hand-answer.result c.hand-answer.new.moved c.hand-answer.ensures.answered
    c.args.things.now c.args.known.now.refs (sym c.is_done.ensures ∙ c.if-not-is_done.true)

pub commit-requires-clause-private : goal.commit-requires-clause-private
commit-requires-clause-private g c =
    let view = g.K.Seat.view in
    let done_is : done c.hand-answer.result ≡ true = sym c.is_done.ensures ∙ c.if-not-is_done.false in
    subst (ArePrivate c.args.things.now)
    (sym (same_items (view c.args.seat.now) (view c.hand-answer.new.self) c.args.step c.args.call.now c.args.moved c.hand-answer.result c.hand-answer.new.moved c.hand-answer.ensures.answered done_is)) c.requires.private

pub commit-requires-clause-room : goal.commit-requires-clause-room
commit-requires-clause-room g c =
    let view = g.K.Seat.view in
    let done_is : done c.hand-answer.result ≡ true = sym c.is_done.ensures ∙ c.if-not-is_done.false in
    subst (λ n. n ≤ c.args.known.now.room)
    (sym (same_length (view c.args.seat.now) (view c.hand-answer.new.self) c.args.step c.args.call.now c.args.moved c.hand-answer.result c.hand-answer.new.moved c.hand-answer.ensures.answered done_is)) c.requires.room

pub returns-clause-hands : goal.returns-clause-hands
returns-clause-hands g c =
    let view = g.K.Seat.view in
    hands_done (view c.args.seat.now) (view c.hand-answer.new.self) c.args.step c.args.call.now c.args.moved c.hand-answer.result c.hand-answer.new.moved c.hand-answer.ensures.answered
    c.args.things.now c.args.known.now.refs c.commit.new.heap c.commit.new.known.refs (sym c.is_done.ensures ∙ c.if-not-is_done.false) c.commit.ensures.left c.commit.ensures.known
