use Rattle.std.proofs.Common.{◌≡◌, ◌∙◌, ap, sym, rules, to_z, of_z, w64}
use Rattle.std.specs.Option.{option_copied}
use Rattle.rb_model.specs.Acts.{At}
use Rattle.rb_model.specs.Immediates.{list_answered}
use Rattle.local_heap.proofs.Looking.{none_there, reads_only, list_told_there}
use Rattle.local_heap.proofs.heap.LocalHeap.list_element.Goals as goal

pub returns-in-Some-clause-list : goal.returns-in-Some-clause-list
returns-in-Some-clause-list g c =
    let z : to_z w64 (of_z w64 c.args.index) ≡ c.args.index = search rules in
    (rw z at c.list_element.ensures) ∙ list_told_there c.self.inside.cells.thread (g.S.ShapeStore.shapes c.self.inside.shapes) c.self.inside.cells.items.items c.args.self.now c.self.view_is c.self.invariant c.args.id (option_copied c.cell.result) c.cell.ensures c.args.index c.in-Some.cell.now (ap option_copied c.in-Some.is)

pub returns-in-Some-clause-private : goal.returns-in-Some-clause-private
returns-in-Some-clause-private g c = reads_only c.self.inside.cells.thread (g.S.ShapeStore.shapes c.self.inside.shapes) c.self.inside.cells.items.items c.args.self.now c.self.view_is c.self.invariant c.args.id c.args.index

pub returns-in-None-clause-list : goal.returns-in-None-clause-list
returns-in-None-clause-list g c =
    ap (λ o. list_answered o (At c.args.index))
    (sym (none_there c.self.inside.cells.thread (g.S.ShapeStore.shapes c.self.inside.shapes) c.self.inside.cells.items.items c.args.self.now c.self.view_is c.self.invariant c.args.id (option_copied c.cell.result) c.cell.ensures (ap option_copied c.in-None.is)))

pub returns-in-None-clause-private : goal.returns-in-None-clause-private
returns-in-None-clause-private g c = reads_only c.self.inside.cells.thread (g.S.ShapeStore.shapes c.self.inside.shapes) c.self.inside.cells.items.items c.args.self.now c.self.view_is c.self.invariant c.args.id c.args.index
