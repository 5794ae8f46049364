use Rattle.std.proofs.Common.{◌∙◌, refl, sym, ap}
use Rattle.rb_builtin.specs.Deeds.{thing_of}
use Rattle.rb_model.specs.Values.{plain}
use Rattle.rb_walk.specs.Outcome.{left_by, outcome, value_of}
use Rattle.rb_walk.proofs.Outcomes.{gave, gone}
use Rattle.rb_walk.proofs.Owning.{value_back, break_back, next_back, return_back, return_left, over_back}
use Rattle.rb_interp.proofs.walker.Walker.give_back.Goals as goal

pub returns-then-not-is_left-clause-came : goal.returns-then-not-is_left-clause-came
returns-then-not-is_left-clause-came g c = λ block S start k sc d kept a.
    let v = value_of c.args.came c.args.self.now.value in
    let t = c.take-value.ensures in
    let f = rw (t.stays.1, t.stays.2, t.stays.3, t.value) at c.unlock.ensures.came in
    let e = gave c.args.came c.args.self.now.value c.args.self.now.leave (sym c.is_left.ensures ∙ c.if-not-is_left.true) in
    value_back S _ start _ _ _ _ (thing_of c.args.mutex) c.args.at block k sc d _ kept v _ f (rw e at a)

pub returns-in-Break-clause-came : goal.returns-in-Break-clause-came
returns-in-Break-clause-came g c = λ block S start k sc d kept a.
    let e = gone c.args.came c.args.self.now.value c.args.self.now.leave (sym c.is_left.ensures ∙ c.if-not-is_left.false) ∙ ap (λ x. left_by x c.args.self.now.value) c.in-Break.is in
    break_back S _ start _ _ _ _ (thing_of c.args.mutex) c.args.at block k sc d _ kept _ c.unlock-in-Break.ensures.came (rw e at a)

pub returns-in-Next-clause-came : goal.returns-in-Next-clause-came
returns-in-Next-clause-came g c = λ block S start k sc d kept a.
    let e = gone c.args.came c.args.self.now.value c.args.self.now.leave (sym c.is_left.ensures ∙ c.if-not-is_left.false) ∙ ap (λ x. left_by x c.args.self.now.value) c.in-Next.is in
    next_back S _ start _ _ _ _ (thing_of c.args.mutex) c.args.at block k sc d _ kept _ c.unlock-in-Next.ensures.came (rw e at a)

pub returns-then-is_left-clause-came : goal.returns-then-is_left-clause-came
returns-then-is_left-clause-came g c = λ block S start k sc d kept a.
    let v = plain c.args.self.now.value in
    let e = gone c.args.came c.args.self.now.value c.args.self.now.leave (sym c.is_left.ensures ∙ c.if-not-is_left.false) ∙ ap (λ x. left_by x c.args.self.now.value) c.in-Return.is in
    let y = c.unlock-came in
    let is = c.replace-value.ensures.value in
    let f = rw is at y.ensures.came in
    let s = rw is at y.ensures.settled in
    return_left S _ start _ _ _ _ (thing_of c.args.mutex) c.args.at block k sc d _ kept v y.result y.new.self.value y.new.self.leave (sym c.is_left-in-Return.ensures ∙ c.if-is_left.true) s f (rw e at a)

pub returns-else-is_left-clause-came : goal.returns-else-is_left-clause-came
returns-else-is_left-clause-came g c = λ block S start k sc d kept a.
    let v = plain c.args.self.now.value in
    let e = gone c.args.came c.args.self.now.value c.args.self.now.leave (sym c.is_left.ensures ∙ c.if-not-is_left.false) ∙ ap (λ x. left_by x c.args.self.now.value) c.in-Return.is in
    let y = c.unlock-came in
    let is = c.replace-value.ensures.value in
    let f = rw is at y.ensures.came in
    let t = c.take.ensures in
    rw (t.stays.3, t.value) (return_back S _ start _ _ _ _ (thing_of c.args.mutex) c.args.at block k sc d _ kept v y.result y.new.self.value y.new.self.leave (sym c.is_left-in-Return.ensures ∙ c.if-is_left.false) f (rw e at a))
