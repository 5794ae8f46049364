use Rattle.std.proofs.Common.{◌∷◌, [], None}
use Rattle.rb_model.specs.Values.{plain}
use Rattle.rb_machine.specs.Call.{answered}
use Rattle.rb_machine.specs.Methods.{deed}
use Rattle.rb_walk.specs.Answers.{outcome_of}
use Rattle.rb_walk.proofs.Calls.{left_answered, answers, or_memory}
use Rattle.rb_interp.proofs.walker.Walker.call_with.Goals as goal

pub returns-in-Some-clause-came : goal.returns-in-Some-clause-came
returns-in-Some-clause-came g c = rw c.in-Some.ensures.some c.asked_value.ensures.came

pub returns-in-None-clause-came : goal.returns-in-None-clause-came
returns-in-None-clause-came g c = λ name e S start k sc p a.
    let o = c.operated.ensures in
    let answer = deed c.args.self.now.context.program.now (plain c.args.receiver.now) name (plain c.args.arg ∷ []) None in
    rw (o.stays.3, o.stays.2)
    (or_memory S _ start _ _ k sc _ _ (outcome_of answer c.args.at) _ (answered S answer None c.args.at k sc c.args.depth c.args.self.now.left) (o.gives name e) a (left_answered S answer c.args.at k sc _ _)
    (answers S _ start _ _ answer c.args.at k sc _ _ a))
