use Rattle.shape_tree.proofs.Kept.{Keeps-pushed}
use Rattle.shape_tree.proofs.tables.Tables.extend.Goals as goal

pub returns-clause-kept : goal.returns-clause-kept
returns-clause-kept c =
    Keeps-pushed c.args.self.now c.self.inside.tables.items c.args.layout.table c.args.slot _ _
    c.self.view_is c.requires.fits.there c.index_mut.ensures.value c.in_ok-push.ensures
