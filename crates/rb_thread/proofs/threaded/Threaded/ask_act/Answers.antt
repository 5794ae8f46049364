use Rattle.std.proofs.Common.{refl, subst}
use Rattle.rb_model.specs.Acts.{handed}
use Rattle.rb_model.specs.declared.call.Call.TheVariants as held
use Rattle.rb_model.specs.Doing.{doing}
use Rattle.publish_barrier.proofs.Leaving.{leaves_private}
use Rattle.rb_thread.specs.Seats as seats
use Rattle.rb_thread.proofs.Asking.{quiet_on}
use Rattle.rb_thread.proofs.Handed.{alive_handed, may_act, mine_as, served_handed}
use Rattle.rb_thread.proofs.threaded.Threaded.ask_act.Goals as goal

pub hand_over-answer-requires-clause-may : goal.hand_over-answer-requires-clause-may
hand_over-answer-requires-clause-may g c =
    let l = c.requires.live in
    may_act (g.K.Seat.view c.args.self.now.seat) c.args.self.now.things c.args.self.now.known.refs c.in-Ok.moved c.args.thing c.args.act (mine_as l) l.known l.absent c.in-Ok.ensures c.requires.known c.requires.serves c.requires.other

pub hand_over-answer-requires-clause-private : goal.hand_over-answer-requires-clause-private
hand_over-answer-requires-clause-private g c = leaves_private c.in-Ok.ensures.leaves

pub returns-clause-live : goal.returns-clause-live
returns-clause-live g c =
    let view = g.K.Seat.view in
    let hands =
    subst (λ rs. seats.Hands (view c.args.self.now.seat) c.args.step (held.On c.args.thing c.args.act) c.in-Ok.moved c.args.self.now.things rs c.hand_over-answer.result (view c.hand_over-answer.new.seat) c.hand_over-answer.new.things c.hand_over-answer.new.known.refs)
    c.reserve.ensures.refs c.hand_over-answer.ensures.hands in
    alive_handed c.args.step (held.On c.args.thing c.args.act) c.in-Ok.moved (handed (doing c.args.act)) c.hand_over-answer.result c.hand_over-answer.new.known.refs c.requires.live c.hand_over-answer.ensures.home refl
    (quiet_on c.args.thing c.args.act c.hand_over-answer.result c.requires.other) c.in-Ok.ensures.leaves hands c.take_in.ensures.noted

pub returns-clause-served : goal.returns-clause-served
returns-clause-served g c =
    let view = g.K.Seat.view in
    served_handed (view c.args.self.now.seat) (view c.hand_over-answer.new.seat) c.args.step (held.On c.args.thing c.args.act) c.in-Ok.moved c.hand_over-answer.result c.args.self.now.things c.reserve.new.self.refs c.hand_over-answer.new.things
    c.hand_over-answer.new.known.refs c.take_in.result _ refl c.take_in.ensures.served refl c.in-Ok.ensures.leaves c.hand_over-answer.ensures.hands
