use Rattle.std.proofs.Common.{arith}
use Rattle.rb_model.specs.Acts.{Push}
use Rattle.rb_model.specs.Immediates.{value_told}
use Rattle.local_heap.specs.Memory.{NotAtOnce}
use Rattle.local_heap.specs.Contents.{was_done}
use Rattle.local_heap.specs.Cells.{CellRefuses}
use Rattle.local_heap.proofs.AtOnce.{ok_each}
use Rattle.local_heap.proofs.Looking.{cell_there, refused_there, write_gives, write_kept, write_private, write_there, write_told, write_whole}
use Rattle.local_heap.proofs.heap.LocalHeap.push_immediate.Goals as goal

pub invariant_of-self : goal.invariant_of-self
invariant_of-self g c =
    let found = cell_there c.self.inside.cells.thread (g.S.ShapeStore.shapes c.self.inside.shapes) c.self.inside.cells.items.items c.args.self.now c.self.view_is c.self.invariant c.args.id c.index_mut.result.now c.if-id-self.false (omega (arith, c.if-at-len.false)) c.index_mut.ensures.value in
    write_whole c.self.inside.cells.thread (g.S.ShapeStore.shapes c.self.inside.shapes) c.self.inside.cells.items.items c.args.self.now c.self.view_is c.self.invariant
    c.args.id c.index_mut.result.now found c.index_mut.ensures.value c.push_immediate.new.self Push (value_told c.args.value) (was_done c.push_immediate.result) c.push_immediate.ensures.does

pub returns-clause-there : goal.returns-clause-there
returns-clause-there g c =
    let found = cell_there c.self.inside.cells.thread (g.S.ShapeStore.shapes c.self.inside.shapes) c.self.inside.cells.items.items c.args.self.now c.self.view_is c.self.invariant c.args.id c.index_mut.result.now c.if-id-self.false (omega (arith, c.if-at-len.false)) c.index_mut.ensures.value in
    write_there c.self.inside.cells.thread (g.S.ShapeStore.shapes c.self.inside.shapes) c.self.inside.cells.items.items c.args.self.now c.self.view_is c.self.invariant
    c.args.id c.index_mut.result.now found c.index_mut.ensures.value c.push_immediate.new.self Push (value_told c.args.value) (was_done c.push_immediate.result) c.push_immediate.ensures.does

pub returns-clause-gives : goal.returns-clause-gives
returns-clause-gives g c =
    let found = cell_there c.self.inside.cells.thread (g.S.ShapeStore.shapes c.self.inside.shapes) c.self.inside.cells.items.items c.args.self.now c.self.view_is c.self.invariant c.args.id c.index_mut.result.now c.if-id-self.false (omega (arith, c.if-at-len.false)) c.index_mut.ensures.value in
    write_gives c.self.inside.cells.thread (g.S.ShapeStore.shapes c.self.inside.shapes) c.self.inside.cells.items.items c.args.self.now c.self.view_is c.self.invariant
    c.args.id c.index_mut.result.now found c.index_mut.ensures.value c.push_immediate.new.self Push (value_told c.args.value) (was_done c.push_immediate.result) c.push_immediate.ensures.does

pub returns-clause-private : goal.returns-clause-private
returns-clause-private g c =
    let found = cell_there c.self.inside.cells.thread (g.S.ShapeStore.shapes c.self.inside.shapes) c.self.inside.cells.items.items c.args.self.now c.self.view_is c.self.invariant c.args.id c.index_mut.result.now c.if-id-self.false (omega (arith, c.if-at-len.false)) c.index_mut.ensures.value in
    write_private c.self.inside.cells.thread (g.S.ShapeStore.shapes c.self.inside.shapes) c.self.inside.cells.items.items c.args.self.now c.self.view_is c.self.invariant
    c.args.id c.index_mut.result.now found c.index_mut.ensures.value c.push_immediate.new.self Push (value_told c.args.value) (was_done c.push_immediate.result) c.push_immediate.ensures.does

pub returns-clause-told : goal.returns-clause-told
returns-clause-told g c =
    let found = cell_there c.self.inside.cells.thread (g.S.ShapeStore.shapes c.self.inside.shapes) c.self.inside.cells.items.items c.args.self.now c.self.view_is c.self.invariant c.args.id c.index_mut.result.now c.if-id-self.false (omega (arith, c.if-at-len.false)) c.index_mut.ensures.value in
    write_told c.self.inside.cells.thread (g.S.ShapeStore.shapes c.self.inside.shapes) c.self.inside.cells.items.items c.args.self.now c.self.view_is c.self.invariant
    c.args.id c.index_mut.result.now found c.index_mut.ensures.value c.push_immediate.new.self Push (value_told c.args.value) (was_done c.push_immediate.result) c.push_immediate.ensures.does

pub returns-clause-kept : goal.returns-clause-kept
returns-clause-kept g c =
    let found = cell_there c.self.inside.cells.thread (g.S.ShapeStore.shapes c.self.inside.shapes) c.self.inside.cells.items.items c.args.self.now c.self.view_is c.self.invariant c.args.id c.index_mut.result.now c.if-id-self.false (omega (arith, c.if-at-len.false)) c.index_mut.ensures.value in
    write_kept c.self.inside.cells.thread (g.S.ShapeStore.shapes c.self.inside.shapes) c.self.inside.cells.items.items c.args.self.now c.self.view_is c.self.invariant
    c.args.id c.index_mut.result.now found c.index_mut.ensures.value c.push_immediate.new.self Push (value_told c.args.value) (was_done c.push_immediate.result) c.push_immediate.ensures.does

pub returns-clause-refused : goal.returns-clause-refused
returns-clause-refused g c =
    let found = cell_there c.self.inside.cells.thread (g.S.ShapeStore.shapes c.self.inside.shapes) c.self.inside.cells.items.items c.args.self.now c.self.view_is c.self.invariant c.args.id c.index_mut.result.now c.if-id-self.false (omega (arith, c.if-at-len.false)) c.index_mut.ensures.value in
    ok_each c.push_immediate.result (value_told c.args.value) (λ v. CellRefuses c.index_mut.result.now (Push v)) (λ v. NotAtOnce c.args.self.now c.args.id (Push v)) (λ v refuses. refused_there c.self.inside.cells.thread (g.S.ShapeStore.shapes c.self.inside.shapes) c.self.inside.cells.items.items c.args.self.now c.self.view_is c.self.invariant c.args.id c.index_mut.result.now found c.index_mut.ensures.value (Push v) refuses) c.push_immediate.ensures.refused
