use Rattle.std.proofs.Common.{◌++◌, map, sym, ap, ◌∙◌, append-nil}
use Rattle.ordered_pairs.specs.Order.{in_order, pair_of}
use Rattle.ordered_pairs.proofs.Ordered.{one_more}
use Rattle.ordered_pairs.proofs.indexed.IndexedPairs.copy.Goals as goal

pub pairs-init : goal.pairs-init
pairs-init c =
    rw c.in_ok-pairs.ensures.items
    (ap (λ r. in_order r.iter) c.into_iter-key-iterator.ensures.into_iter_gives ∙ ap in_order (c.rev-key-items.ensures.source ∙ c.iter.ensures.rest) ∙ c.self.view_is)

pub pairs-preserved : goal.pairs-preserved
pairs-preserved c =
    rw c.in_ok-push.ensures.items
    (one_more c.pairs.pairs.items _ _ c.in-Some.key.now c.in-Some.value.now _ _ c.args.self.now c.pairs.invariant c.in-Some.ensures.steps c.in_ok-share.ensures.value c.in_ok-share-2.ensures.value)

pub returns : goal.returns
returns c = sym (append-nil (map pair_of c.pairs.pairs.items)) ∙ (ap (λ l. map pair_of c.pairs.pairs.items ++ in_order l) (sym c.in-None.ensures.steps.0) ∙ c.pairs.invariant)
