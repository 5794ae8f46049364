use Rattle.std.proofs.Common.{◌≡◌, to_z, of_z, w64, rules}
use Rattle.rb_walk.proofs.Immediates.{row_given, row_unnamed}
use Rattle.rb_interp.proofs.walker.Walker.row_at.Goals as goal

pub returns-clause-given : goal.returns-clause-given
returns-clause-given g c =
    let z : to_z w64 (of_z w64 c.in_ok-index.index) ≡ c.in_ok-index.index = search rules in
    let x = c.in-Operate in
    let y = c.list_element.ensures in
    row_given c.args.code.now x.method x.field-1 x.left x.right x.field-4 c.args.room.now _ c.in_ok-rows.rows c.in_ok-index.index c.list_element.result x.is
    (c.is_element.ensures c.if-not-is_element.false) (rw c.get.ensures at c.in_ok-rows.ensures.held) c.in_ok-rows.ensures.unnamed (rw c.get-2.ensures at c.in_ok-index.ensures) (rw z at y.list) (rw z at y.private)

pub returns-clause-unnamed : goal.returns-clause-unnamed
returns-clause-unnamed g c = row_unnamed (g.O.ThreadStore.private c.args.self.now.store) c.in_ok-rows.rows.id _ c.list_element.result c.list_element.ensures.list
