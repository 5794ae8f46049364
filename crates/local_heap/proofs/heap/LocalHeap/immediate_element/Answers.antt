use Rattle.std.proofs.Common.{◌≡◌, ◌∙◌, ap, sym, rules, to_z, of_z, w64}
use Rattle.std.specs.Option.{option_copied}
use Rattle.rb_model.specs.Acts.{At}
use Rattle.rb_model.specs.Immediates.{told_answer}
use Rattle.local_heap.proofs.Looking.{none_there, reads_only, told_there}
use Rattle.local_heap.proofs.heap.LocalHeap.immediate_element.Goals as goal

pub returns-in-Some-clause-told : goal.returns-in-Some-clause-told
returns-in-Some-clause-told g c =
    let z : to_z w64 (of_z w64 c.args.index) ≡ c.args.index = search rules in
    (rw z at c.immediate.ensures) ∙ told_there c.self.inside.cells.thread (g.S.ShapeStore.shapes c.self.inside.shapes) c.self.inside.cells.items.items c.args.self.now c.self.view_is c.self.invariant c.args.id (option_copied c.cell.result) c.cell.ensures c.args.index c.in-Some.cell.now (ap option_copied c.in-Some.is)

pub returns-in-Some-clause-private : goal.returns-in-Some-clause-private
returns-in-Some-clause-private g c = reads_only c.self.inside.cells.thread (g.S.ShapeStore.shapes c.self.inside.shapes) c.self.inside.cells.items.items c.args.self.now c.self.view_is c.self.invariant c.args.id c.args.index

pub returns-in-None-clause-told : goal.returns-in-None-clause-told
returns-in-None-clause-told g c =
    ap (λ o. told_answer o (At c.args.index))
    (sym (none_there c.self.inside.cells.thread (g.S.ShapeStore.shapes c.self.inside.shapes) c.self.inside.cells.items.items c.args.self.now c.self.view_is c.self.invariant c.args.id (option_copied c.cell.result) c.cell.ensures (ap option_copied c.in-None.is)))

pub returns-in-None-clause-private : goal.returns-in-None-clause-private
returns-in-None-clause-private g c = reads_only c.self.inside.cells.thread (g.S.ShapeStore.shapes c.self.inside.shapes) c.self.inside.cells.items.items c.args.self.now c.self.view_is c.self.invariant c.args.id c.args.index
