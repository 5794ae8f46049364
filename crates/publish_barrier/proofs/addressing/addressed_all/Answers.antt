use Rattle.std.proofs.Common.{sym, ◌∙◌, ◌≡◌, ◌<◌, length, arith, ap, subst, refl, get_or, None}
use Rattle.std.specs.Option.{IfNone}
use Rattle.publish_barrier.specs.Gathers.{address_all}
use Rattle.publish_barrier.proofs.Handing.{out_begins, out_more, out_done, to_begins, to_next, to_nothing, to_end}
use Rattle.publish_barrier.proofs.addressing.addressed_all.Goals as goal

pub values-init : goal.values-init
values-init g c = (
  out_begins c.args.heap.now c.args.known.now.refs c.args.values.items,
  to_begins c.args.heap.now c.args.known.now.refs c.args.values.items,
)

pub values-preserved : goal.values-preserved
values-preserved g c =
    let inside : c.values.k < length c.values.values.items = omega (arith, c.values-test.true, c.len-len.ensures, c.values.invariant.0.1) in
    let is = c.replace-value.ensures.value ∙ (c.index_mut.ensures.value ∙ ap (get_or c.values.values.items c.values.k) (sym c.replace-value.ensures.value)) in (
      out_more c.args.heap.now c.args.known.now.refs c.values.k c.args.values.items c.values.values.items _ c.replace-value.new.dest c.replace-value.result c.in_ok-values.field-0 c.values.invariant.0
          inside is c.in_ok-values.ensures.same refl,
      to_next c.args.heap.now c.args.known.now.refs c.values.k c.args.values.items c.values.values.items c.replace-value.result inside is c.values.invariant.1
          c.in_ok-values.field-0 c.replace-value.new.dest _ (sym c.in_ok-values.ensures.exact) refl,
    )

pub returns-clause-some : goal.returns-clause-some
returns-clause-some g c =
    to_end c.args.heap.now c.args.known.now.refs c.values.k c.args.values.items c.values.values.items (omega (arith, c.values-test.false, c.len-len.ensures, c.values.invariant.0.1)) c.values.invariant.1

pub returns-clause-none : goal.returns-clause-none
returns-clause-none g c = tt

pub returns-clause-same : goal.returns-clause-same
returns-clause-same g c =
    out_done c.args.heap.now c.args.known.now.refs c.values.k c.args.values.items c.values.values.items (omega (arith, c.values-test.false, c.len-len.ensures, c.values.invariant.0.1)) c.values.invariant.0

pub returns-in_err-values-clause-none : goal.returns-in_err-values-clause-none
returns-in_err-values-clause-none g c =
    let inside : c.values.k < length c.values.values.items = omega (arith, c.values-test.true, c.len-len.ensures, c.values.invariant.0.1) in
    let is = c.replace-value.ensures.value ∙ (c.index_mut.ensures.value ∙ ap (get_or c.values.values.items c.values.k) (sym c.replace-value.ensures.value)) in
    subst (λ o. IfNone o (address_all c.args.heap.now c.args.known.now.refs c.args.values.items ≡ None)) (sym c.from_residual.ensures)
    (to_nothing c.args.heap.now c.args.known.now.refs c.values.k c.args.values.items c.values.values.items c.replace-value.result inside is c.values.invariant.1 (sym c.in_err-values.ensures.exact))
