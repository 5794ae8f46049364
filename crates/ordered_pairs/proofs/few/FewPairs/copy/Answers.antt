use Rattle.std.proofs.Common.{map, ap, ◌∙◌}
use Rattle.std.proofs.lemmas.List.{take_all}
use Rattle.ordered_pairs.specs.Order.{pair_of}
use Rattle.ordered_pairs.proofs.Row.{copied_more}
use Rattle.ordered_pairs.proofs.few.FewPairs.copy.Goals as goal

pub pairs-init : goal.pairs-init
pairs-init c = ap (map pair_of) c.in_ok-copies.ensures.items

pub pairs-preserved : goal.pairs-preserved
pairs-preserved c =
    rw c.in_ok-push.ensures.items
    (copied_more c.pairs.pair-index c.deref-pair-items.result.now c.pairs.copies.items c.pair-item.result _ _ c.pairs-test.true c.pair-item.is c.pairs.invariant c.in_ok-share.ensures.value c.in_ok-share-2.ensures.value)

pub returns : goal.returns
returns c =
    c.pairs.invariant
    ∙ ap (map pair_of) (take_all c.pairs.pair-index c.deref-pair-items.result.now c.pairs-test.false ∙ c.deref-pair-items.ensures.value)
    ∙ c.self.view_is
