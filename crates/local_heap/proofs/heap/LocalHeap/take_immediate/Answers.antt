use Rattle.std.proofs.Common.{◌∙◌, ap, arith}
use Rattle.rb_model.specs.Immediates.{taking, value_told}
use Rattle.local_heap.proofs.Looking.{cell_there, take_kept, take_private, take_whole, taken_told_there}
use Rattle.local_heap.proofs.heap.LocalHeap.take_immediate.Goals as goal

pub invariant_of-self : goal.invariant_of-self
invariant_of-self g c =
    let found = cell_there c.self.inside.cells.thread (g.S.ShapeStore.shapes c.self.inside.shapes) c.self.inside.cells.items.items c.args.self.now c.self.view_is c.self.invariant c.args.id c.index_mut.result.now c.if-id-self.false (omega (arith, c.if-at-len.false)) c.index_mut.ensures.value in
    take_whole c.self.inside.cells.thread (g.S.ShapeStore.shapes c.self.inside.shapes) c.self.inside.cells.items.items c.args.self.now c.self.view_is c.self.invariant
    c.args.id c.index_mut.result.now found c.index_mut.ensures.value c.take_immediate.new.self (taking c.args.side) (value_told c.take_immediate.result) c.take_immediate.ensures.does

pub returns-clause-told : goal.returns-clause-told
returns-clause-told g c =
    let found = cell_there c.self.inside.cells.thread (g.S.ShapeStore.shapes c.self.inside.shapes) c.self.inside.cells.items.items c.args.self.now c.self.view_is c.self.invariant c.args.id c.index_mut.result.now c.if-id-self.false (omega (arith, c.if-at-len.false)) c.index_mut.ensures.value in
    c.take_immediate.ensures.told ∙ taken_told_there c.self.inside.cells.thread (g.S.ShapeStore.shapes c.self.inside.shapes) c.self.inside.cells.items.items c.args.self.now c.self.view_is c.self.invariant c.args.id c.index_mut.result.now found c.index_mut.ensures.value c.args.side

pub returns-clause-private : goal.returns-clause-private
returns-clause-private g c =
    let found = cell_there c.self.inside.cells.thread (g.S.ShapeStore.shapes c.self.inside.shapes) c.self.inside.cells.items.items c.args.self.now c.self.view_is c.self.invariant c.args.id c.index_mut.result.now c.if-id-self.false (omega (arith, c.if-at-len.false)) c.index_mut.ensures.value in
    take_private c.self.inside.cells.thread (g.S.ShapeStore.shapes c.self.inside.shapes) c.self.inside.cells.items.items c.args.self.now c.self.view_is c.self.invariant
    c.args.id c.index_mut.result.now found c.index_mut.ensures.value c.take_immediate.new.self (taking c.args.side) (value_told c.take_immediate.result) c.take_immediate.ensures.does

pub returns-clause-kept : goal.returns-clause-kept
returns-clause-kept g c = λ other.
    let found = cell_there c.self.inside.cells.thread (g.S.ShapeStore.shapes c.self.inside.shapes) c.self.inside.cells.items.items c.args.self.now c.self.view_is c.self.invariant c.args.id c.index_mut.result.now c.if-id-self.false (omega (arith, c.if-at-len.false)) c.index_mut.ensures.value in
    let takes = rw (ap value_told other) at c.take_immediate.ensures.does in
    take_kept c.self.inside.cells.thread (g.S.ShapeStore.shapes c.self.inside.shapes) c.self.inside.cells.items.items c.args.self.now c.self.view_is c.self.invariant
    c.args.id c.index_mut.result.now found c.index_mut.ensures.value c.take_immediate.new.self (taking c.args.side) takes
