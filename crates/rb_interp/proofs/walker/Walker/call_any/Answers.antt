use Rattle.std.proofs.Common.{ap, sym, ◌∙◌, map, None}
use Rattle.rb_model.specs.Values.{plain}
use Rattle.rb_machine.specs.Methods.{deed}
use Rattle.rb_walk.specs.Answers.{outcome_of}
use Rattle.rb_walk.proofs.Calls.{answers}
use Rattle.rb_interp.proofs.walker.Walker.call_any.Goals as goal

pub returns-in-Some-question_of-clause-came : goal.returns-in-Some-question_of-clause-came
returns-in-Some-question_of-clause-came g c = λ name e S start k sc p a.
    let y = c.ask_behind.ensures in
    let asked = c.in-Some-question_of.ensures c.args.self.now.context.program.now name e in
    rw y.stays.2 ((y.came c.args.depth S start k sc p (rw asked at a)))

pub returns-in-Some-clause-came : goal.returns-in-Some-clause-came
returns-in-Some-clause-came g c = λ name e S start k sc p a.
    let o = c.answer.ensures in
    let answer = deed c.args.self.now.context.program.now (plain c.args.receiver.now) name (map plain c.args.args.now) None in
    rw (o.gives ∙ ap (λ d. outcome_of d c.args.at) (sym (c.in-Some.ensures c.args.self.now.context.program.now name e)), o.stays.3, o.stays.2)
    (answers S _ start _ _ answer c.args.at k sc _ _ a)
