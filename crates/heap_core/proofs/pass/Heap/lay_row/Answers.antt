use Rattle.std.proofs.Common.{refl, sym, ap, ◌∙◌, arith}
use Rattle.atomic_table.specs.Seated.{TableId}
use Rattle.heap_core.specs.Passes.{holder_of}
use Rattle.heap_core.proofs.Fitting.{own_below}
use Rattle.heap_core.proofs.Laying.{front_begin, front_end, front_more, front_own}
use Rattle.heap_core.proofs.pass.Heap.lay_row.Goals as goal

pub row-init : goal.row-init
row-init g c = (refl, sym (front_begin (holder_of c.args.pass.now.badge.views) c.args.at c.args.row.now c.requires.own))

pub overflow_add-at : goal.overflow_add-at
overflow_add-at g c =
    let own = front_own (holder_of c.args.pass.now.badge.views) c.args.at c.args.row.now c.requires.own _ c.row.i c.row.invariant.1 c.row-test.true in
    let below = own_below _ _ _ c.row.pass.rests.1 own in
    let most = c.args.self.now.most in
    let words = ap (λ (t : TableId). t.words) (c.row.invariant.0 ∙ c.requires.of) in
    omega (arith, below, most, words)

pub store_own-requires-clause-of : goal.store_own-requires-clause-of
store_own-requires-clause-of g c = c.row.invariant.0 ∙ c.requires.of

pub store_own-requires-clause-own : goal.store_own-requires-clause-own
store_own-requires-clause-own g c = front_own (holder_of c.args.pass.now.badge.views) c.args.at c.args.row.now c.requires.own _ c.row.i c.row.invariant.1 c.row-test.true

pub row-preserved : goal.row-preserved
row-preserved g c = (
  c.store_own.ensures.of ∙ c.row.invariant.0,
  front_more (holder_of c.args.pass.now.badge.views) c.args.at c.args.row.now c.requires.own _ _ c.row.i _ 0 c.row.invariant.1 c.row-test.true refl c.store_own.ensures.stored,
)

pub returns-clause-of : goal.returns-clause-of
returns-clause-of g c = c.row.invariant.0

pub returns-clause-laid : goal.returns-clause-laid
returns-clause-laid g c = c.row.invariant.1 ∙ front_end (holder_of c.args.pass.now.badge.views) c.args.at c.args.row.now c.requires.own c.row.i c.row-test.false
