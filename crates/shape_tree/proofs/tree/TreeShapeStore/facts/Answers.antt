use Rattle.indexmap.specs.IndexMap.{keys, values}
use Rattle.shape_tree.proofs.Read.{places_are}
use Rattle.shape_tree.proofs.tree.TreeShapeStore.facts.Goals as goal

pub returns-clause-places : goal.returns-clause-places
returns-clause-places c =
    places_are (keys c.self.inside.nodes) (values c.self.inside.nodes) c.self.inside.tables c.args.self.now c.args.shape c.row_of-row.result
    c.self.invariant c.self.view_is c.requires c.row_of-row.ensures
