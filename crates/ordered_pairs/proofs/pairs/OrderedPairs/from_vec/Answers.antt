use Rattle.std.proofs.Common.{map, sym, ◌∙◌, subst}
use Rattle.ordered_pairs.specs.Order.{pair_of}
use Rattle.ordered_pairs.specs.Few.{AreFew}
use Rattle.ordered_pairs.proofs.Row.{distinct_gathered}
use Rattle.ordered_pairs.proofs.pairs.OrderedPairs.from_vec.Goals as goal

pub returns-then-are_few-clause-pairs : goal.returns-then-are_few-clause-pairs
returns-then-are_few-clause-pairs c =
    let few = subst (λ its. AreFew (map pair_of its)) c.as_slice.ensures.value (c.are_few.ensures c.if-are_few.true) in
    c.from_vec.ensures ∙ sym (distinct_gathered (map pair_of c.args.given.items) few.0)
