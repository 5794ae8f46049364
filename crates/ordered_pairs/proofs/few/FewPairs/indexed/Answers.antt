use Rattle.std.proofs.Common.{map, sym, ap, ◌∙◌, subst}
use Rattle.rb_model.specs.Things.{gathered_onto, with_pair}
use Rattle.ordered_pairs.specs.Order.{pair_of}
use Rattle.ordered_pairs.specs.Few.{AreFew}
use Rattle.ordered_pairs.proofs.Row.{gathered_all, gathered_more}
use Rattle.ordered_pairs.proofs.few.FewPairs.indexed.Goals as goal

pub pairs-init : goal.pairs-init
pairs-init c = ap (λ ps. gathered_onto ps (map pair_of c.deref-pair-items.result.now)) (c.in_ok-indexed.ensures.ok ∙ c.in_ok-new.ensures)

pub pairs-preserved : goal.pairs-preserved
pairs-preserved c =
    gathered_more c.pairs.pair-index c.deref-pair-items.result.now c.pairs.indexed.value c.add.new.self c.pair-item.result c.in_ok-share.field-0 c.in_ok-share-2.field-0
    c.pairs-test.true c.pair-item.is c.pairs.invariant c.in_ok-share.ensures.value c.in_ok-share-2.ensures.value (c.in_ok-add.ensures ∙ ap (with_pair _ _) c.deref_mut.ensures.value)

pub returns : goal.returns
returns c =
    gathered_all c.pairs.pair-index c.deref-pair-items.result.now c.pairs.indexed.value c.args.self.now c.pairs-test.false (ap (map pair_of) c.deref-pair-items.ensures.value ∙ c.self.view_is)
    (subst (λ its. AreFew (map pair_of its)) (sym c.deref-pair-items.ensures.value) c.self.invariant) c.pairs.invariant
