use Rattle.std.proofs.Common.{◌∷◌, ◌∙◌, refl, sym}
use Rattle.rb_model.specs.Values.{To}
use Rattle.rb_model.specs.Doing.{doing}
use Rattle.rb_machine.specs.Control.{Then, Instead, IsZero}
use Rattle.rb_builtin.specs.Deeds.{thing_of}
use Rattle.rb_walk.proofs.Moves.{on, same}
use Rattle.rb_walk.proofs.Outcomes.{given}
use Rattle.rb_walk.proofs.Collections.{waiting, asks_so, past_waiting}
use Rattle.rb_interp.proofs.walker.Walker.ask_behind.Goals as goal

pub returns-then-is_left-clause-came : goal.returns-then-is_left-clause-came
returns-then-is_left-clause-came g c = λ depth S start k sc p a.
    let y = c.ask_apart-came in
    let come = y.ensures.came S start (waiting c.args.behind c.args.thing k) sc depth (same a (asks_so S c.args.behind c.args.thing (doing c.args.act) c.args.at k sc depth _)) in
    (past_waiting S _ start _ c.args.behind c.args.thing y.result y.new.self.value y.new.self.leave _ k sc depth _ (sym c.is_left.ensures ∙ c.if-is_left.true) come)

pub returns-in-Receiver-clause-came : goal.returns-in-Receiver-clause-came
returns-in-Receiver-clause-came g c = λ depth S start k sc p a.
    let y = c.ask_apart-came in
    let come = y.ensures.came S start (Then (Instead (To (thing_of c.args.thing))) ∷ k) sc depth (rw c.in-Receiver.is at a) in
    let g1 = given y.result y.new.self.value y.new.self.leave (sym c.is_left.ensures ∙ c.if-is_left.false) come in
    rw (c.give.ensures.gives, c.give.ensures.stays.3) (on _ g1 refl)

pub returns-in-IsZero-clause-came : goal.returns-in-IsZero-clause-came
returns-in-IsZero-clause-came g c = λ depth S start k sc p a.
    let y = c.ask_apart-came in
    let come = y.ensures.came S start (Then IsZero ∷ k) sc depth (rw c.in-IsZero.is at a) in
    let g1 = given y.result y.new.self.value y.new.self.leave (sym c.is_left.ensures ∙ c.if-is_left.false) come in
    rw c.is_zero.ensures (on _ g1 refl)
