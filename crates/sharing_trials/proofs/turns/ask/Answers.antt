use Rattle.std.proofs.Common.{sym, ap, ◌∙◌, subst}
use Rattle.rb_shared.specs.Answers.{AnswersIn}
use Rattle.rb_shared.specs.Asking.{MayAsk}
use Rattle.rb_shared.specs.View.{View}
use Rattle.sharing_trials.proofs.Asking.{quick_leaves, quick_noted, noted_may, polled_may, answer_leaves, leaves_from, noted_as}
use Rattle.sharing_trials.proofs.turns.ask.Goals as goal

pub returns-in-Done-clause-leaves : goal.returns-in-Done-clause-leaves
returns-in-Done-clause-leaves g c =
    let see = g.S.SharedStore.view in
    quick_leaves (see c.args.pass.now) (see c.poll.new.pass) (see c.quick.new.pass) 1 c.args.call.now c.in-Done.reply c.poll.ensures.view c.in-Done.ensures.quick

pub call-requires-clause-may : goal.call-requires-clause-may
call-requires-clause-may g c κs within =
    let see = g.S.SharedStore.view in
    let noted = quick_noted (see c.poll.new.pass) (see c.quick.new.pass) 1 c.args.call.now c.quick.result c.in_default.not-Done c.quick.ensures.quick in
    subst (λ ms. MayAsk (see c.quick.new.pass) c.args.call.now ms) (sym c.new-moved.ensures)
    (noted_may (see c.poll.new.pass) (see c.quick.new.pass) c.args.call.now 1 noted (polled_may (see c.args.pass.now) (see c.poll.new.pass) c.args.call.now c.poll.ensures.view c.requires.may))

pub returns-clause-leaves : goal.returns-clause-leaves
returns-clause-leaves g c =
    let see = g.S.SharedStore.view in
    let over = g.S.SharedStore.overflows c.args.store.now in
    let noted = quick_noted (see c.poll.new.pass) (see c.quick.new.pass) 1 c.args.call.now c.quick.result c.in_default.not-Done c.quick.ensures.quick in
    leaves_from (see c.args.pass.now) (see c.quick.new.pass) c.args.call.now c.call.result (see c.call.new.pass)
    (ap (λ (v : View). v.ended) noted ∙ ap (λ (v : View). v.ended) c.poll.ensures.view) (ap (λ (v : View). v.known) noted ∙ ap (λ (v : View). v.known) c.poll.ensures.view)
    (noted_as (see c.args.pass.now) (see c.poll.new.pass) (see c.quick.new.pass) 1 c.args.call.now c.poll.ensures.view noted)
    (answer_leaves over (see c.quick.new.pass) 1 c.args.call.now c.call.result c.call.new.moved (see c.call.new.pass)
    (subst (λ ms. AnswersIn over (see c.quick.new.pass) 1 c.args.call.now ms c.call.result c.call.new.moved (see c.call.new.pass)) c.new-moved.ensures c.call.ensures.answers))
