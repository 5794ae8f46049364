use Rattle.std.proofs.Common.{sym, ◌∙◌}
use Rattle.publish_barrier.proofs.Noting.{noted_there, same_found}
use Rattle.publish_barrier.proofs.known.Known.find_same.Goals as goal

pub returns-then-is_same_sort-clause-exact : goal.returns-then-is_same_sort-clause-exact
returns-then-is_same_sort-clause-exact c =
    same_found c.args.self.now.refs c.args.thing c.in_ok-found.found (sym c.find.ensures ∙ c.in_ok-found.was) (sym c.is_same_sort.ensures.exact ∙ c.if-is_same_sort.true)

pub returns-then-is_same_sort-clause-same : goal.returns-then-is_same_sort-clause-same
returns-then-is_same_sort-clause-same c =
    let there = noted_there c.args.self.now.refs c.args.thing.id c.in_ok-found.found (sym c.find.ensures ∙ c.in_ok-found.was) in
    let same = c.is_same_sort.ensures.same c.if-is_same_sort.true in
    ((λ i. record { sort = same i; id = there.0 i }), there.1)
