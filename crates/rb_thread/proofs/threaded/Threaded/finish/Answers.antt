use Rattle.std.proofs.Common.{◌∙◌, ap, subst}
use Rattle.rb_model.specs.Private.{Private}
use Rattle.rb_model.specs.Ends.{over}
use Rattle.rb_thread.specs.Alive.{Closes}
use Rattle.rb_thread.proofs.Closing.{closed_store, ends_by}
use Rattle.rb_thread.proofs.threaded.Threaded.finish.Goals as goal

pub returns-clause-ends : goal.returns-clause-ends
returns-clause-ends g c =
    let l = c.requires.live in
    let one = c.gather_all-last.ensures in
    let view = g.K.Seat.view in
    let own = c.args.self.things in
    let before = view c.args.self.seat in
    let v = view c.gather_all-last.new.self.seat in
    let w = view c.close-end.new.self.seat in
    let k = c.close-end.new.self.things in
    let closes =
    subst (λ e. Closes c.args.step own e v w (over c.close-end.result) k) c.closing.ensures (subst (λ h. Closes c.args.step h (over c.closing.result) v w (over c.close-end.result) k) one.things c.close-end.ensures.closes) in
    ends_by g.J.Whose.script g.J.Whose.steps g.J.Whose.job before v w c.args.self.kids.0 c.gather_all-last.new.self.kids.0 c.args.step own (over c.args.end) (over c.gather_all-last.result.0) (over c.close-end.result) c.gather_all-last.result.1
    k l.mine l.sound one.tail one.live.sound one.cleared closes

pub returns-clause-shapes : goal.returns-clause-shapes
returns-clause-shapes g c =
    let view = g.K.Seat.view in
    let one = c.gather_all-last.ensures in
    let closed = closed_store c.args.step c.gather_all-last.new.self.things (over c.closing.result) (view c.gather_all-last.new.self.seat) (view c.close-end.new.self.seat) (over c.close-end.result) c.close-end.new.self.things c.close-end.ensures.closes in
    c.into_shapes.ensures ∙ (closed.1 ∙ ap (λ (h : Private). h.shapes) one.things)
