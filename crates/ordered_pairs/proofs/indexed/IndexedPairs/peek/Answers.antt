use Rattle.ordered_pairs.proofs.Ordered.{peeked_none, peeked_there, peeked_value}
use Rattle.ordered_pairs.proofs.indexed.IndexedPairs.peek.Goals as goal

pub returns-clause-there : goal.returns-clause-there
returns-clause-there c = peeked_there c.args.key.now _ _ c.are_distinct.ensures c.self.view_is c.peek.result c.peek.ensures

pub returns-clause-value : goal.returns-clause-value
returns-clause-value c = peeked_value c.args.key.now _ _ c.are_distinct.ensures c.self.view_is c.peek.result c.peek.ensures

pub returns-clause-none : goal.returns-clause-none
returns-clause-none c = peeked_none c.args.key.now _ _ c.are_distinct.ensures c.self.view_is c.peek.result c.peek.ensures
