use Rattle.std.proofs.Common.{map, subst, sym}
use Rattle.ordered_pairs.specs.Order.{pair_of}
use Rattle.ordered_pairs.specs.Few.{AreFew}
use Rattle.ordered_pairs.proofs.Row.{few_none}
use Rattle.ordered_pairs.proofs.few.FewPairs.new.Goals as goal

pub invariant_of-result : goal.invariant_of-result
invariant_of-result c = subst (λ its. AreFew (map pair_of its)) (sym c.new.ensures.items) few_none
