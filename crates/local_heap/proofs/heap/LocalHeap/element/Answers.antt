use Rattle.std.proofs.Common.{◌≡◌, ap, sym, rules, to_z, of_z, w64}
use Rattle.std.specs.Option.{option_copied}
use Rattle.std.proofs.lemmas.Result.{on_err_weaker}
use Rattle.rb_model.specs.Acts.{At}
use Rattle.local_heap.specs.Contents.{is_list}
use Rattle.local_heap.proofs.Looking.{gives_there, none_there, reads_only, wants_there}
use Rattle.local_heap.proofs.heap.LocalHeap.element.Goals as goal

pub returns-in-Some-clause-value : goal.returns-in-Some-clause-value
returns-in-Some-clause-value g c =
    let z : to_z w64 (of_z w64 c.args.index) ≡ c.args.index = search rules in
    gives_there c.self.inside.cells.thread (g.S.ShapeStore.shapes c.self.inside.shapes) c.self.inside.cells.items.items c.args.self.now c.self.view_is c.self.invariant c.args.id (option_copied c.cell.result) c.cell.ensures c.args.index c.in-Some.cell.now (ap option_copied c.in-Some.is) c.element.result (rw z at c.element.ensures.value)

pub returns-in-Some-clause-private : goal.returns-in-Some-clause-private
returns-in-Some-clause-private g c = reads_only c.self.inside.cells.thread (g.S.ShapeStore.shapes c.self.inside.shapes) c.self.inside.cells.items.items c.args.self.now c.self.view_is c.self.invariant c.args.id c.args.index

pub returns-in-Some-clause-refused : goal.returns-in-Some-clause-refused
returns-in-Some-clause-refused g c =
    let z : to_z w64 (of_z w64 c.args.index) ≡ c.args.index = search rules in
    on_err_weaker c.element.result
    (wants_there c.self.inside.cells.thread (g.S.ShapeStore.shapes c.self.inside.shapes) c.self.inside.cells.items.items c.args.self.now c.self.view_is c.self.invariant c.args.id (option_copied c.cell.result) c.cell.ensures (At c.args.index) c.in-Some.cell.now (ap option_copied c.in-Some.is)) (rw z at c.element.ensures.refused)

pub returns-in-None-clause-list : goal.returns-in-None-clause-list
returns-in-None-clause-list g c = ap is_list (sym (none_there c.self.inside.cells.thread (g.S.ShapeStore.shapes c.self.inside.shapes) c.self.inside.cells.items.items c.args.self.now c.self.view_is c.self.invariant c.args.id (option_copied c.cell.result) c.cell.ensures (ap option_copied c.in-None.is)))

pub returns-in-None-clause-private : goal.returns-in-None-clause-private
returns-in-None-clause-private g c = reads_only c.self.inside.cells.thread (g.S.ShapeStore.shapes c.self.inside.shapes) c.self.inside.cells.items.items c.args.self.now c.self.view_is c.self.invariant c.args.id c.args.index
