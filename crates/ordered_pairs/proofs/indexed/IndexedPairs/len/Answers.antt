use Rattle.std.proofs.Common.{length, sym, ap, ◌∙◌}
use Rattle.ordered_pairs.proofs.Ordered.{as_long}
use Rattle.ordered_pairs.proofs.indexed.IndexedPairs.len.Goals as goal

pub returns-clause-exact : goal.returns-clause-exact
returns-clause-exact c = c.len.ensures.len ∙ sym (as_long c.self.inside.entries.entries) ∙ ap length c.self.view_is
