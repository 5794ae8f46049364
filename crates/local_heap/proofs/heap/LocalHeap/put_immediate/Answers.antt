use Rattle.std.proofs.Common.{◌≡◌, rules, to_z, of_z, w64, arith}
use Rattle.rb_model.specs.Acts.{Put}
use Rattle.rb_model.specs.Immediates.{value_told}
use Rattle.local_heap.specs.Memory.{NotAtOnce}
use Rattle.local_heap.specs.Cells.{CellRefuses}
use Rattle.local_heap.proofs.AtOnce.{some_each}
use Rattle.local_heap.proofs.Looking.{cell_there, refused_there, write_gives, write_kept, write_private, write_there, write_told, write_whole}
use Rattle.local_heap.proofs.heap.LocalHeap.put_immediate.Goals as goal

pub invariant_of-self : goal.invariant_of-self
invariant_of-self g c =
    let z : to_z w64 (of_z w64 c.args.index) ≡ c.args.index = search rules in
    let found = cell_there c.self.inside.cells.thread (g.S.ShapeStore.shapes c.self.inside.shapes) c.self.inside.cells.items.items c.args.self.now c.self.view_is c.self.invariant c.args.id c.index_mut.result.now c.if-id-self.false (omega (arith, c.if-at-len.false)) c.index_mut.ensures.value in
    write_whole c.self.inside.cells.thread (g.S.ShapeStore.shapes c.self.inside.shapes) c.self.inside.cells.items.items c.args.self.now c.self.view_is c.self.invariant
    c.args.id c.index_mut.result.now found c.index_mut.ensures.value c.put_immediate.new.self (Put c.args.index) (value_told c.args.value) c.put_immediate.result (rw z at c.put_immediate.ensures.does)

pub returns-clause-there : goal.returns-clause-there
returns-clause-there g c =
    let z : to_z w64 (of_z w64 c.args.index) ≡ c.args.index = search rules in
    let found = cell_there c.self.inside.cells.thread (g.S.ShapeStore.shapes c.self.inside.shapes) c.self.inside.cells.items.items c.args.self.now c.self.view_is c.self.invariant c.args.id c.index_mut.result.now c.if-id-self.false (omega (arith, c.if-at-len.false)) c.index_mut.ensures.value in
    write_there c.self.inside.cells.thread (g.S.ShapeStore.shapes c.self.inside.shapes) c.self.inside.cells.items.items c.args.self.now c.self.view_is c.self.invariant
    c.args.id c.index_mut.result.now found c.index_mut.ensures.value c.put_immediate.new.self (Put c.args.index) (value_told c.args.value) c.put_immediate.result (rw z at c.put_immediate.ensures.does)

pub returns-clause-gives : goal.returns-clause-gives
returns-clause-gives g c =
    let z : to_z w64 (of_z w64 c.args.index) ≡ c.args.index = search rules in
    let found = cell_there c.self.inside.cells.thread (g.S.ShapeStore.shapes c.self.inside.shapes) c.self.inside.cells.items.items c.args.self.now c.self.view_is c.self.invariant c.args.id c.index_mut.result.now c.if-id-self.false (omega (arith, c.if-at-len.false)) c.index_mut.ensures.value in
    write_gives c.self.inside.cells.thread (g.S.ShapeStore.shapes c.self.inside.shapes) c.self.inside.cells.items.items c.args.self.now c.self.view_is c.self.invariant
    c.args.id c.index_mut.result.now found c.index_mut.ensures.value c.put_immediate.new.self (Put c.args.index) (value_told c.args.value) c.put_immediate.result (rw z at c.put_immediate.ensures.does)

pub returns-clause-private : goal.returns-clause-private
returns-clause-private g c =
    let z : to_z w64 (of_z w64 c.args.index) ≡ c.args.index = search rules in
    let found = cell_there c.self.inside.cells.thread (g.S.ShapeStore.shapes c.self.inside.shapes) c.self.inside.cells.items.items c.args.self.now c.self.view_is c.self.invariant c.args.id c.index_mut.result.now c.if-id-self.false (omega (arith, c.if-at-len.false)) c.index_mut.ensures.value in
    write_private c.self.inside.cells.thread (g.S.ShapeStore.shapes c.self.inside.shapes) c.self.inside.cells.items.items c.args.self.now c.self.view_is c.self.invariant
    c.args.id c.index_mut.result.now found c.index_mut.ensures.value c.put_immediate.new.self (Put c.args.index) (value_told c.args.value) c.put_immediate.result (rw z at c.put_immediate.ensures.does)

pub returns-clause-told : goal.returns-clause-told
returns-clause-told g c =
    let z : to_z w64 (of_z w64 c.args.index) ≡ c.args.index = search rules in
    let found = cell_there c.self.inside.cells.thread (g.S.ShapeStore.shapes c.self.inside.shapes) c.self.inside.cells.items.items c.args.self.now c.self.view_is c.self.invariant c.args.id c.index_mut.result.now c.if-id-self.false (omega (arith, c.if-at-len.false)) c.index_mut.ensures.value in
    write_told c.self.inside.cells.thread (g.S.ShapeStore.shapes c.self.inside.shapes) c.self.inside.cells.items.items c.args.self.now c.self.view_is c.self.invariant
    c.args.id c.index_mut.result.now found c.index_mut.ensures.value c.put_immediate.new.self (Put c.args.index) (value_told c.args.value) c.put_immediate.result (rw z at c.put_immediate.ensures.does)

pub returns-clause-kept : goal.returns-clause-kept
returns-clause-kept g c =
    let z : to_z w64 (of_z w64 c.args.index) ≡ c.args.index = search rules in
    let found = cell_there c.self.inside.cells.thread (g.S.ShapeStore.shapes c.self.inside.shapes) c.self.inside.cells.items.items c.args.self.now c.self.view_is c.self.invariant c.args.id c.index_mut.result.now c.if-id-self.false (omega (arith, c.if-at-len.false)) c.index_mut.ensures.value in
    write_kept c.self.inside.cells.thread (g.S.ShapeStore.shapes c.self.inside.shapes) c.self.inside.cells.items.items c.args.self.now c.self.view_is c.self.invariant
    c.args.id c.index_mut.result.now found c.index_mut.ensures.value c.put_immediate.new.self (Put c.args.index) (value_told c.args.value) c.put_immediate.result (rw z at c.put_immediate.ensures.does)

pub returns-clause-refused : goal.returns-clause-refused
returns-clause-refused g c =
    let z : to_z w64 (of_z w64 c.args.index) ≡ c.args.index = search rules in
    let found = cell_there c.self.inside.cells.thread (g.S.ShapeStore.shapes c.self.inside.shapes) c.self.inside.cells.items.items c.args.self.now c.self.view_is c.self.invariant c.args.id c.index_mut.result.now c.if-id-self.false (omega (arith, c.if-at-len.false)) c.index_mut.ensures.value in
    λ not_done. some_each (value_told c.args.value) (λ v. CellRefuses c.index_mut.result.now (Put c.args.index v)) (λ v. NotAtOnce c.args.self.now c.args.id (Put c.args.index v)) (λ v refuses. refused_there c.self.inside.cells.thread (g.S.ShapeStore.shapes c.self.inside.shapes) c.self.inside.cells.items.items c.args.self.now c.self.view_is c.self.invariant c.args.id c.index_mut.result.now found c.index_mut.ensures.value (Put c.args.index v) refuses) ((rw z at c.put_immediate.ensures.refused) not_done)
