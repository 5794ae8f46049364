use Rattle.std.proofs.Common.{◌∙◌, sym, ap}
use Rattle.rb_model.specs.Ends.{over}
use Rattle.rb_thread.specs.Kins.{Kin}
use Rattle.rb_thread.proofs.Lines.{not_true, not_false}
use Rattle.rb_thread.proofs.Tails.{gathered_before, gathered_now, gathered_not, left_out}
use Rattle.rb_thread.proofs.Gathering.{settled_as, changes_childless, changes_done, gathered_log, may_gather_at, alive_gathered, alive_left}
use Rattle.rb_thread.proofs.threaded.Threaded.gather.Goals as goal

pub returns-then-not-is_waiting-clause-kids : goal.returns-then-not-is_waiting-clause-kids
returns-then-not-is_waiting-clause-kids g c =
    let x = c.settle.ensures.kids in
    changes_childless c.args.self.now.kids.0 c.settle.new.self.kids.0 c.args.place x.0 x.1 x.2

pub returns-then-not-is_waiting-clause-gathers : goal.returns-then-not-is_waiting-clause-gathers
returns-then-not-is_waiting-clause-gathers g c =
    let settled = c.settle.ensures in
    let view = g.K.Seat.view in
    let x = settled.kids in
    let ks = c.args.self.now.kids.0 in
    let now = c.settle.new.self.kids.0 in
    let waiting = c.is_waiting.ensures in
    let same = settled_as ks now c.args.place x.0 waiting.0 x.1 x.2 waiting.1 in
    let gathered = ap (λ (o : Kin _). o.gathered) (sym same) ∙ not_false waiting.0.gathered (sym waiting.2 ∙ c.if-not-is_waiting.true) in
    gathered_before c.args.step c.args.place (view c.args.self.now.seat).log (view c.settle.new.self.seat).log (over c.args.end) ks x.0 x.1 gathered settled.log

pub ask-answer-requires-clause-may : goal.ask-answer-requires-clause-may
ask-answer-requires-clause-may g c =
    let settled = c.settle.ensures in
    let view = g.K.Seat.view in
    let x = settled.kids in
    let ks = c.args.self.now.kids.0 in
    let now = c.settle.new.self.kids.0 in
    let waiting = c.is_waiting.ensures in
    let thing = c.thing-thing.ensures in
    let same = settled_as ks now c.args.place x.0 thing.0 x.1 x.2 thing.1 in
    may_gather_at c.args.place thing.0 c.thing-thing.result settled.live thing.1 (ap (λ (o : Kin _). o.child) same) thing.2

pub returns-in-Some-clause-live : goal.returns-in-Some-clause-live
returns-in-Some-clause-live g c =
    let settled = c.settle.ensures in
    let view = g.K.Seat.view in
    let x = settled.kids in
    let ks = c.args.self.now.kids.0 in
    let now = c.settle.new.self.kids.0 in
    let waiting = c.is_waiting.ensures in
    let thing = c.thing-thing.ensures in
    let same = settled_as ks now c.args.place x.0 thing.0 x.1 x.2 thing.1 in
    alive_gathered c.args.step c.args.place c.thing-thing.result c.ask-answer.result c.in-Some.how thing.0 c.mark.ensures.0 settled.live c.ask-answer.ensures.home (sym c.end_told.ensures ∙ c.in-Some.is) c.ask-answer.ensures.answered
    thing.1 thing.2 c.mark.ensures.1 c.mark.ensures.2

pub returns-in-Some-clause-kids : goal.returns-in-Some-clause-kids
returns-in-Some-clause-kids g c =
    let settled = c.settle.ensures in
    let view = g.K.Seat.view in
    let x = settled.kids in
    let ks = c.args.self.now.kids.0 in
    let now = c.settle.new.self.kids.0 in
    let waiting = c.is_waiting.ensures in
    let thing = c.thing-thing.ensures in
    let same = settled_as ks now c.args.place x.0 thing.0 x.1 x.2 thing.1 in
    changes_done ks now c.mark.new.self.0 c.args.place x.0 c.mark.ensures.0 x.1 x.2 c.mark.ensures.1 c.mark.ensures.2

pub returns-in-Some-clause-gathers : goal.returns-in-Some-clause-gathers
returns-in-Some-clause-gathers g c =
    let settled = c.settle.ensures in
    let view = g.K.Seat.view in
    let x = settled.kids in
    let ks = c.args.self.now.kids.0 in
    let now = c.settle.new.self.kids.0 in
    let waiting = c.is_waiting.ensures in
    let thing = c.thing-thing.ensures in
    let same = settled_as ks now c.args.place x.0 thing.0 x.1 x.2 thing.1 in
    let also = settled_as ks now c.args.place x.0 waiting.0 x.1 x.2 waiting.1 in
    let gathered = ap (λ (o : Kin _). o.gathered) (sym also) ∙ not_true waiting.0.gathered (sym waiting.2 ∙ c.if-not-is_waiting.false) in
    gathered_now c.args.step c.args.place (view c.args.self.now.seat).log (view c.ask-answer.new.self).log (over c.args.end) (over c.later.result) (over c.in-Some.how) ks x.0 x.1 gathered
    (gathered_log (view c.args.self.now.seat) (view c.settle.new.self.seat) (view c.ask-answer.new.self) c.args.step c.thing-thing.result x.0.thing c.ask-answer.result c.in-Some.how settled.log
    (thing.2 ∙ ap (λ (o : Kin _). o.thing) same) (sym c.end_told.ensures ∙ c.in-Some.is) c.ask-answer.ensures.answered) c.later.ensures

pub returns-in-None-clause-live : goal.returns-in-None-clause-live
returns-in-None-clause-live g c =
    alive_left c.args.step c.thing-thing.result c.ask-answer.result c.settle.ensures.live c.ask-answer.ensures.home (sym c.end_told.ensures ∙ c.in-None.is) c.ask-answer.ensures.answered

pub returns-in-None-clause-kids : goal.returns-in-None-clause-kids
returns-in-None-clause-kids g c =
    let x = c.settle.ensures.kids in
    changes_childless c.args.self.now.kids.0 c.settle.new.self.kids.0 c.args.place x.0 x.1 x.2

pub returns-in-None-clause-gathers : goal.returns-in-None-clause-gathers
returns-in-None-clause-gathers g c =
    let settled = c.settle.ensures in
    let view = g.K.Seat.view in
    let x = settled.kids in
    let ks = c.args.self.now.kids.0 in
    let now = c.settle.new.self.kids.0 in
    let waiting = c.is_waiting.ensures in
    let also = settled_as ks now c.args.place x.0 waiting.0 x.1 x.2 waiting.1 in
    let gathered = ap (λ (o : Kin _). o.gathered) (sym also) ∙ not_true waiting.0.gathered (sym waiting.2 ∙ c.if-not-is_waiting.false) in
    gathered_not c.args.step c.args.place (view c.args.self.now.seat).log (view c.ask-answer.new.self).log (over c.args.end) ks x.0 x.1 gathered
    ((left_out (view c.settle.new.self.seat) (view c.ask-answer.new.self) c.args.step c.thing-thing.result c.ask-answer.result (sym c.end_told.ensures ∙ c.in-None.is) c.ask-answer.ensures.answered).0 ∙ settled.log)
