use Rattle.indexmap.proofs.CallerLemmas.{keys-with_value_at}
use Rattle.shape_tree.proofs.Trees.{IsTree-laid, layout-laid}
use Rattle.shape_tree.proofs.rows.settle.Goals as goal

pub returns-clause-keys : goal.returns-clause-keys
returns-clause-keys c = keys-with_value_at c.args.nodes.now c.args.shape.0 _

pub returns-clause-tree : goal.returns-clause-tree
returns-clause-tree c =
    IsTree-laid c.args.nodes.now c.args.shape.0 c.row_of-row.result c.in_ok-layout.layout _ _
    c.requires.tree c.settle.ensures.kept c.requires.known c.row_of-row.ensures c.in_ok-layout.ensures.same

pub returns-clause-row : goal.returns-clause-row
returns-clause-row c = layout-laid c.args.nodes.now c.args.shape.0 c.row_of-row.result c.in_ok-layout.layout c.requires.known
