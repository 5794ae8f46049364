use Rattle.std.proofs.Common.{◌∙◌}
use Rattle.indexmap.specs.IndexMap.{keys, values}
use Rattle.shape_tree.proofs.Read.{finds}
use Rattle.shape_tree.proofs.tree.TreeShapeStore.find.Goals as goal

pub returns : goal.returns
returns c =
    c.find.ensures
    ∙ finds (keys c.self.inside.nodes) (values c.self.inside.nodes) c.self.inside.tables c.args.self.now c.args.shape c.row_of-row.result
    c.self.invariant c.self.view_is c.requires c.row_of-row.ensures c.args.name
