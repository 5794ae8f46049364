use Rattle.std.proofs.Common.{ap}
use Rattle.std.specs.Prelude.{Err}
use Rattle.rb_model.specs.Values.{Str, plain}
use Rattle.rb_machine.specs.Texts.{inspected}
use Rattle.rb_walk.specs.Outcome.{is_left}
use Rattle.rb_walk.proofs.Drafting.{end_left, left_only, form_given, line_written, line_ends}
use Rattle.rb_interp.proofs.walker.Walker.add_inspected.Goals as goal

pub returns-in-Some-clause-came : goal.returns-in-Some-clause-came
returns-in-Some-clause-came g c = λ all vs S start k sc p a.
    c.add_collection.ensures.came all vs S start k sc p (rw c.in-Some.ensures.some at a)

pub returns-in-Ok-clause-came : goal.returns-in-Ok-clause-came
returns-in-Ok-clause-came g c = λ all vs S start k sc p a.
    let program = c.args.self.now.context.program.now in
    let v = plain c.args.value.now in
    let gave = form_given S _ start _ _ all vs _ c.args.at k sc c.args.depth _ program v p (c.collection_of.ensures.none c.in_default.is) a in
    (λ q. absurd (cc), λ q. line_written S _ start _ _ all vs _ c.args.at k sc c.args.depth _ (Str (inspected program v)) _ c.in-Ok.ensures.text c.in-Ok.ensures.fits gave)

pub returns-in-Err-clause-came : goal.returns-in-Err-clause-came
returns-in-Err-clause-came g c = λ all vs S start k sc p a.
    let program = c.args.self.now.context.program.now in
    let v = plain c.args.value.now in
    let gave = form_given S _ start _ _ all vs _ c.args.at k sc c.args.depth _ program v p (c.collection_of.ensures.none c.in_default.is) a in
    let z = c.end_text in
    let o = z.ensures in
    rw (o.gives, o.stays.2, o.stays.3) (left_only (is_left z.result) (end_left z.result z.new.self.value z.new.self.leave _ c.args.at o.gives)
    (line_ends S _ start _ _ all vs _ c.args.at k sc c.args.depth _ (Str (inspected program v)) c.in-Err.fault (λ e. c.in-Err.ensures.too_long (ap Err e)) gave))

pub returns-in-Ok-clause-fits : goal.returns-in-Ok-clause-fits
returns-in-Ok-clause-fits g c = λ q. c.in-Ok.ensures.fits

pub returns-in-Err-clause-fits : goal.returns-in-Err-clause-fits
returns-in-Err-clause-fits g c = λ q.
    let z = c.end_text in
    let t = end_left z.result z.new.self.value z.new.self.leave _ c.args.at z.ensures.gives in
    absurd (cc)
