use Rattle.std.proofs.Common.{◌∙◌, sym}
use Rattle.shape_tree.proofs.Log.{found_in-table, found_behind-own, found_own}
use Rattle.shape_tree.proofs.tables.Tables.find.Goals as goal

pub returns-in_default : goal.returns-in_default
returns-in_default c =
    c.find.ensures
    ∙ found_in-table c.args.self.now c.self.inside.tables.items c.args.layout c.args.name _ c.requires c.in_default.is c.self.view_is c.index-table.ensures

pub returns-then-eq : goal.returns-then-eq
returns-then-eq c = found_own c.args.self.now c.args.layout c.in-Some.own c.args.name c.requires c.in-Some.is (sym c.if-eq.ensures)

pub returns : goal.returns
returns c =
    c.find-2.ensures
    ∙ found_behind-own c.args.self.now c.self.inside.tables.items c.args.layout c.in-Some.own c.args.name _ c.requires c.in-Some.is
    (sym c.if-eq.ensures) c.self.view_is c.index-table.ensures
