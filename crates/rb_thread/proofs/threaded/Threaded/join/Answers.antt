use Rattle.rb_model.specs.declared.act.Act.TheVariants as act
use Rattle.rb_model.specs.declared.call.Call.TheVariants as held
use Rattle.std.proofs.Common.{refl, sym, subst, ◌∙◌}
use Rattle.rb_model.specs.Acts.{Join}
use Rattle.rb_model.specs.Immediates.{reference}
use Rattle.rb_model.specs.Log.{On}
use Rattle.rb_shared.specs.Lists.{Has}
use Rattle.publish_barrier.specs.Known.{Noted}
use Rattle.rb_thread.proofs.Entries.{may_join}
use Rattle.rb_thread.proofs.Sounding.{was_told}
use Rattle.rb_thread.proofs.Asking.{alive_ended, alive_other}
use Rattle.rb_thread.proofs.Serving.{served_is, served_since}
use Rattle.rb_thread.proofs.threaded.Threaded.join.Goals as goal

pub ask-answer-requires-clause-may : goal.ask-answer-requires-clause-may
ask-answer-requires-clause-may g c =
    let s = c.settle_id.ensures in
    let w = g.K.Seat.view c.settle_id.new.self.seat in
    may_join w c.args.thing (s.live.known c.args.thing (subst (λ (k : Noted). Has k.refs c.args.thing) (sym s.rest.2) c.requires.known)) c.requires.serves
    (was_told w c.settle_id.new.self.kids.0 c.args.thing.id s.live.sound s.settled) act.Join refl tt

pub returns-then-tells_end-clause-live : goal.returns-then-tells_end-clause-live
returns-then-tells_end-clause-live g c =
    alive_ended c.args.step c.args.thing c.ask-answer.result c.settle_id.ensures.live c.ask-answer.ensures.home (sym c.tells_end.ensures ∙ c.if-tells_end.true) c.ask-answer.ensures.answered c.mark_id.ensures c.take_in.ensures.noted

pub returns-then-tells_end-clause-served : goal.returns-then-tells_end-clause-served
returns-then-tells_end-clause-served g c =
    let view = g.K.Seat.view in
    served_since c.take_in.result c.args.step (On (reference c.args.thing) Join) _ (view c.settle_id.new.self.seat).log (view c.ask-answer.new.self).log c.args.self.now.things _ c.settle_id.ensures.log c.settle_id.ensures.rest.1
    (served_is (view c.settle_id.new.self.seat) (view c.ask-answer.new.self) c.args.step (held.On c.args.thing act.Join) c.ask-answer.result c.args.self.now.things c.take_in.result _ refl c.take_in.ensures.served refl refl c.ask-answer.ensures.answered)

pub returns-clause-live : goal.returns-clause-live
returns-clause-live g c =
    alive_other c.args.step c.args.thing c.ask-answer.result c.settle_id.ensures.live c.ask-answer.ensures.home (sym c.tells_end.ensures ∙ c.if-tells_end.false) c.ask-answer.ensures.answered c.take_in-2.ensures.noted

pub returns-clause-served : goal.returns-clause-served
returns-clause-served g c =
    let view = g.K.Seat.view in
    served_since c.take_in-2.result c.args.step (On (reference c.args.thing) Join) _ (view c.settle_id.new.self.seat).log (view c.ask-answer.new.self).log c.args.self.now.things _ c.settle_id.ensures.log c.settle_id.ensures.rest.1
    (served_is (view c.settle_id.new.self.seat) (view c.ask-answer.new.self) c.args.step (held.On c.args.thing act.Join) c.ask-answer.result c.args.self.now.things c.take_in-2.result _ refl c.take_in-2.ensures.served refl refl c.ask-answer.ensures.answered)
