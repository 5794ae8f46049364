use Rattle.std.proofs.Common.{refl, arith}
use Rattle.rb_model.specs.declared.fault.Fault.TheVariants.{TooDeep}
use Rattle.rb_model.specs.Ends as ending
use Rattle.rb_builtin.specs.Deeds.{thing_of}
use Rattle.rb_walk.specs.Outcome.{is_left}
use Rattle.rb_walk.proofs.Drafting.{over_left, left_only, text_goes, no_step, element_begun, reads, too_deep, goes_less, element_most, copies_less}
use Rattle.rb_interp.proofs.walker.Walker.advance.Goals as goal

pub returns-in-More-clause-came : goal.returns-in-More-clause-came
returns-in-More-clause-came g c = λ t S start k sc p w a.
    let e = rw c.in-More.is at w in
    (λ q. absurd (cc), λ q. text_goes S _ start _ _ c.args.self.now.context.program.now t c.args.at k sc c.args.depth _ p _ e a)

pub returns-in-More-clause-shortens : goal.returns-in-More-clause-shortens
returns-in-More-clause-shortens g c = λ t w q.
    let e = rw c.in-More.is at w in
    let f = goes_less c.args.self.now.context.program.now t _ e in
    omega (arith, f)

pub returns-then-self-eq0-clause-came : goal.returns-then-self-eq0-clause-came
returns-then-self-eq0-clause-came g c = λ t S start k sc p w a.
    let e = rw c.in-Element.is at w in
    let y = c.over in
    let o = y.ensures in
    rw (o.gives, o.stays.2, o.stays.3) (left_only (is_left y.result) (over_left y.result y.new.self.value y.new.self.leave ending.Steps o.gives)
    (no_step S _ start _ _ c.args.self.now.context.program.now t c.args.at k sc c.args.depth _ p _ e c.if-self-eq0.true a))

pub returns-then-self-eq0-clause-shortens : goal.returns-then-self-eq0-clause-shortens
returns-then-self-eq0-clause-shortens g c = λ t w q.
    let y = c.over in
    let z = over_left y.result y.new.self.value y.new.self.leave ending.Steps y.ensures.gives in
    absurd (cc)

pub returns-else-self-eq0-clause-came : goal.returns-else-self-eq0-clause-came
returns-else-self-eq0-clause-came g c = λ t S start k sc p w a.
    let e = rw c.in-Element.is at w in
    (λ q. absurd (cc), λ q. element_begun S _ start _ _ c.args.self.now.context.program.now t c.args.at k sc c.args.depth _ p _ e (omega (arith, c.if-self-eq0.false)) a)

pub returns-else-self-eq0-clause-shortens : goal.returns-else-self-eq0-clause-shortens
returns-else-self-eq0-clause-shortens g c = λ t w q.
    let e = rw c.in-Element.is at w in
    let f = element_most c.args.self.now.context.program.now t _ e in
    omega (arith, f, c.if-self-eq0.false)

pub returns-then-is_too_deep-clause-came : goal.returns-then-is_too_deep-clause-came
returns-then-is_too_deep-clause-came g c = λ t S start k sc p w a.
    let e = rw c.in-Copy.is at w in
    let deep = rw c.depth.ensures at (c.is_too_deep.ensures.deep c.if-is_too_deep.true) in
    let y = c.raise in
    let o = y.ensures in
    rw (o.gives, o.stays.2, o.stays.3) (left_only (is_left y.result) (over_left y.result y.new.self.value y.new.self.leave (ending.Raised TooDeep c.args.at) o.gives)
    (too_deep S _ start _ _ c.args.self.now.context.program.now t c.args.at k sc c.args.depth _ p (thing_of c.in-Copy.thing) _ e deep a))

pub returns-then-is_too_deep-clause-shortens : goal.returns-then-is_too_deep-clause-shortens
returns-then-is_too_deep-clause-shortens g c = λ t w q.
    let y = c.raise in
    let z = over_left y.result y.new.self.value y.new.self.leave (ending.Raised TooDeep c.args.at) y.ensures.gives in
    absurd (cc)

pub returns-else-is_too_deep-clause-came : goal.returns-else-is_too_deep-clause-came
returns-else-is_too_deep-clause-came g c = λ t S start k sc p w a.
    let e = rw c.in-Copy.is at w in
    let fits = rw c.depth.ensures at (c.is_too_deep.ensures.fits c.if-is_too_deep.false) in
    let b = reads S _ start _ _ c.args.self.now.context.program.now t c.args.at k sc c.args.depth _ p (thing_of c.in-Copy.thing) _ e fits a in
    rw c.open.ensures.stays.2 (c.open.ensures.opens S start k sc c.args.depth b)

pub returns-else-is_too_deep-clause-shortens : goal.returns-else-is_too_deep-clause-shortens
returns-else-is_too_deep-clause-shortens g c = λ t w q.
    let e = rw c.in-Copy.is at w in
    let f = copies_less c.args.self.now.context.program.now t _ (thing_of c.in-Copy.thing) e in
    let m = c.open.ensures.work q in
    let l = c.open.ensures.stays.2 in
    omega (arith, f, m, l)

pub returns-in_default-clause-came : goal.returns-in_default-clause-came
returns-in_default-clause-came g c = λ t S start k sc p w a.
    let y = c.over-in_default in
    let o = y.ensures in
    rw (o.gives, o.stays.2, o.stays.3) (left_only (is_left y.result) (over_left y.result y.new.self.value y.new.self.leave ending.Memory o.gives) (_, a, refl))

pub returns-in_default-clause-shortens : goal.returns-in_default-clause-shortens
returns-in_default-clause-shortens g c = λ t w q.
    let y = c.over-in_default in
    let z = over_left y.result y.new.self.value y.new.self.leave ending.Memory y.ensures.gives in
    absurd (cc)
