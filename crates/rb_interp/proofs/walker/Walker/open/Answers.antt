use Rattle.std.proofs.Common.{ap}
use Rattle.std.specs.Prelude.{Err}
use Rattle.rb_model.specs.Doing.{said}
use Rattle.rb_builtin.specs.Deeds.{thing_of}
use Rattle.rb_walk.specs.Outcome.{is_left}
use Rattle.rb_walk.proofs.Moves.{same}
use Rattle.rb_walk.proofs.Drafting.{over_left, end_left, left_only, read_ends}
use Rattle.rb_interp.proofs.walker.Walker.open.Goals as goal

pub returns-in-Ok-give_copy-clause-opens : goal.returns-in-Ok-give_copy-clause-opens
returns-in-Ok-give_copy-clause-opens g c = λ S start k sc d a.
    let b = c.in-Ok.ensures.reads _ c.args.at S start k sc d a in
    (λ q. absurd (cc), λ q. same b (c.in-Ok-give_copy.ensures.given c.args.at k sc d _))

pub returns-in-Ok-give_copy-clause-work : goal.returns-in-Ok-give_copy-clause-work
returns-in-Ok-give_copy-clause-work g c = λ q. c.in-Ok-give_copy.ensures.work

pub returns-in-Err-give_copy-clause-opens : goal.returns-in-Err-give_copy-clause-opens
returns-in-Err-give_copy-clause-opens g c = λ S start k sc d a.
    let b = c.in-Ok.ensures.reads _ c.args.at S start k sc d a in
    let y = c.end_text in
    let o = y.ensures in
    let ends = read_ends c.args.at k sc d _ S _ start _ _ (thing_of c.args.thing) (said c.in-Ok.reply) c.args.draft.now c.in-Err-give_copy.fault (λ e. c.in-Err-give_copy.ensures.too_long (ap Err e)) b in
    rw (o.gives, o.stays.3) (left_only (is_left y.result) (end_left y.result y.new.self.value y.new.self.leave _ c.args.at o.gives) ends)

pub returns-in-Err-give_copy-clause-work : goal.returns-in-Err-give_copy-clause-work
returns-in-Err-give_copy-clause-work g c = λ q.
    let y = c.end_text in
    let t = end_left y.result y.new.self.value y.new.self.leave _ c.args.at y.ensures.gives in
    absurd (cc)

pub returns-in-Err-clause-opens : goal.returns-in-Err-clause-opens
returns-in-Err-clause-opens g c = λ S start k sc d a.
    let y = c.in-Err.ensures in
    left_only (is_left c.in-Err.came) (over_left c.in-Err.came _ _ y.over.0 y.over.1) (y.ends _ c.args.at S start k sc d a)

pub returns-in-Err-clause-work : goal.returns-in-Err-clause-work
returns-in-Err-clause-work g c = λ q.
    let y = c.in-Err.ensures in
    let t = over_left c.in-Err.came _ _ y.over.0 y.over.1 in
    absurd (cc)
