use Rattle.std.proofs.Common.{sym, ap, ◌∙◌}
use Rattle.rb_model.specs.Values.{plain}
use Rattle.ordered_pairs.specs.Order.{in_order}
use Rattle.ordered_pairs.proofs.Ordered.{found, unfound, taken_out}
use Rattle.ordered_pairs.proofs.indexed.IndexedPairs.delete.Goals.{in-Some, in-None}
use Rattle.ordered_pairs.proofs.indexed.IndexedPairs.delete.Goals as goal

pub returns-clause-value : goal.returns-clause-value
returns-clause-value c = elim c.match-pop.branch [
  | in-Some w ↦ ap plain w.result-is ∙ found c.args.key.now _ _ c.are_distinct.ensures c.self.view_is _ (sym c.pop.ensures.value ∙ w.in-Some.is)
  | in-None w ↦ ap plain w.result-is ∙ unfound c.args.key.now _ _ c.are_distinct.ensures c.self.view_is (sym c.pop.ensures.value ∙ w.in-None.is)
]

pub returns-clause-gone : goal.returns-clause-gone
returns-clause-gone c =
    ap (λ x. in_order x.entries) c.pop.ensures.entries ∙ taken_out c.args.key.now _ _ c.are_distinct.ensures c.self.view_is
