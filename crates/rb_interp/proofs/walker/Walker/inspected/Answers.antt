use Rattle.std.proofs.Common.{◌∙◌, refl, sym, ap, arith}
use Rattle.std.specs.Prelude.{Err}
use Rattle.rb_walk.proofs.Drafting.{finished_is, text_ends, text_given}
use Rattle.rb_interp.proofs.walker.Walker.inspected.Goals as goal

pub text-init : goal.text-init
text-init g c = record {
  base = refl;
  context = refl;
  less = omega arith;
  came = λ S start k sc p a. rw c.new-draft.ensures a;
}

pub text-preserved : goal.text-preserved
text-preserved g c =
    let inv = c.text.invariant in
    let y = c.advance-came.ensures in
    record {
      base = y.stays.0 ∙ inv.base;
      context = y.stays.1 ∙ inv.context;
      less = omega (arith, y.stays.2, inv.less);
      came = λ S start k sc p a.
          let f = rw inv.context at y.came in
          let w = rw inv.context at c.in-Ok.ensures.wants in
          (f _ S start k sc p w (inv.came S start k sc p a)).1 (sym c.is_left.ensures ∙ c.if-is_left.false);
    }

pub text-smaller : goal.text-smaller
text-smaller g c = c.advance-came.ensures.shortens _ c.in-Ok.ensures.wants (sym c.is_left.ensures ∙ c.if-is_left.false)

pub returns-in-Err-clause-came : goal.returns-in-Err-clause-came
returns-in-Err-clause-came g c = λ S start k sc p a.
    let inv = c.text.invariant in
    let o = c.end_text.ensures in
    let long = rw inv.context at c.in-Err.ensures.too_long in
    rw (o.gives, o.stays.2, o.stays.3)
    (text_ends S _ start _ _ c.args.self.now.context.program.now c.text.draft c.args.at k sc c.args.depth _ p c.in-Err.fault (λ e. long (ap Err e)) (inv.came S start k sc p a))

pub returns-then-is_finished-clause-came : goal.returns-then-is_finished-clause-came
returns-then-is_finished-clause-came g c = λ S start k sc p a.
    let inv = c.text.invariant in
    let o = c.give_bytes.ensures in
    let w = rw (finished_is c.in-Ok.want (sym c.is_finished.ensures ∙ c.if-is_finished.true), inv.context) at c.in-Ok.ensures.wants in
    let m = rw c.into_bytes.ensures at o.gives in
    rw (o.stays.2, o.stays.3) (text_given S _ start _ _ c.args.self.now.context.program.now c.text.draft c.args.at k sc c.args.depth _ p _ _ w.0 m (inv.came S start k sc p a))

pub returns-then-is_left-clause-came : goal.returns-then-is_left-clause-came
returns-then-is_left-clause-came g c = λ S start k sc p a.
    let inv = c.text.invariant in
    let y = c.advance-came.ensures in
    let f = rw inv.context at y.came in
    let w = rw inv.context at c.in-Ok.ensures.wants in
    (f _ S start k sc p w (inv.came S start k sc p a)).0 (sym c.is_left.ensures ∙ c.if-is_left.true)
